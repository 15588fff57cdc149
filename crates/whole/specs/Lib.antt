-- The definitions of whole numbers and polynomials, and what the routines promise.
pub mod Number
pub mod Coefficients
pub mod Promise
pub mod Steps
