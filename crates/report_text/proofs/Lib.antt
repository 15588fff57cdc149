-- Theorems: the lines, the one answer, and how long a report is.
pub mod Lined
pub mod Once
pub mod Short
