-- The theory of curves: their legs, D, N and their sizes.
pub mod LegPolynomial
pub mod Differences
pub mod SquaredLegs
pub mod Points
pub mod Once
pub mod Moved
pub mod Norms
pub mod Sizes
pub mod Derivative
pub mod Algebra
