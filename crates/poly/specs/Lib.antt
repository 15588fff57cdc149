-- The words of the theorems.
pub mod Polynomials
pub mod Terms
