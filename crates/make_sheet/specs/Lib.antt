-- The definitions that the contracts cite.
pub mod Sayings
pub mod Making
pub mod Steps
