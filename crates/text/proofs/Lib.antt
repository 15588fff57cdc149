-- Theorems: decimals, pieces that follow one another, and what was written.
pub mod Decimals
pub mod Pieces
pub mod Held
