-- The theory of polynomials over any ring with the laws.
pub mod Series
pub mod Lists
pub mod Zeros
pub mod Value
pub mod Domain
pub mod Top
pub mod Forms
pub mod Divisibility
pub mod Gauss
pub mod Content
pub mod Squares
pub mod Euclid
pub mod Roots
pub mod Shift
pub mod Wholes
pub mod RootTwo
pub mod Deciding
