-- Binomial coefficients, differences, and polynomials by their Bernstein coefficients.
pub mod Binomials
pub mod Powers
