-- Theorems: the bytes that arrive, and their line.
pub mod Arrivals
