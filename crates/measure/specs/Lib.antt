-- The definitions that the contracts cite: lengths, turning polynomials, the promises; `Steps` is for the parts of the program only.
pub mod Lengths
pub mod Turns
pub mod Promise
pub mod Steps
