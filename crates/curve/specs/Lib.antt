-- The definitions that the contracts cite: curves, the cause that every call on a curve shares; `Steps` is for the parts of the program only.
pub mod Sizes
pub mod Curves
pub mod Promise
pub mod Steps
