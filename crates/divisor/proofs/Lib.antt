-- The theory of the division of pairs: quotients, divisors, roots, units.
pub mod Division
pub mod Divisors
pub mod Roots
pub mod Rounding
pub mod Halves
pub mod Euclid
pub mod Units
