-- The theory of the count of inflections and of the length, and the theorems that each promise has one answer.
pub mod Blends
pub mod Most
pub mod Seen
pub mod Counts
pub mod Sizes
pub mod Once
pub mod Arcs
pub mod Boole
pub mod LengthSizes
mod Examples
