-- Theorems: the totals stay those of some sheets, and there is room for the lines.
pub mod Filled
