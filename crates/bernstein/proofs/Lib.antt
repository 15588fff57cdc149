-- The theory of binomial coefficients, differences and Bernstein coefficients.
pub mod Binomials
pub mod Blends
pub mod InPowers
pub mod Polynomials
pub mod PowerForms
pub mod Products
pub mod Sums
pub mod Coefficients
pub mod Fractions
pub mod Found
