-- Theorems on what is read, and its one answer.
pub mod Digits
pub mod Texts
pub mod Once
