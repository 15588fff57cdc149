-- Theorems: the one answer, how long the texts are, and a box worked out by hand.
pub mod Once
pub mod Short
mod Examples
