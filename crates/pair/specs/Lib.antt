-- The definitions of pairs.
pub mod Pairs
