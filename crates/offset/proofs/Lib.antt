-- The theory of offsets.
pub mod Turns
pub mod Products
pub mod Changes
pub mod Paths
pub mod Answers
pub mod Geometry
pub mod Once
