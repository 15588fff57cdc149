-- The proof tools, and the laws behind the routines.
pub mod Integers
pub mod Ring
pub mod Solver
pub mod Wholes
pub mod Linear
pub mod Order
pub mod Signs
pub mod Bound
pub mod Machine
pub mod Options
pub mod Division
pub mod Divisor
pub mod Evens
pub mod Fill
pub mod Flags
pub mod Squares
pub mod Tables
mod Examples
