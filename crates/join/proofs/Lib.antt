-- The theory of joins, from the order of triples up to the curves; Once has that `joins` has one answer, and Curves what the list holds.
pub mod Order
pub mod Few
pub mod Centres
pub mod Sizes
pub mod Writing
pub mod Once
pub mod Fractions
pub mod Curves
