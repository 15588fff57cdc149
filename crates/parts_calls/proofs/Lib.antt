-- The numbers of a state at the area's start, numbers with and without a sign, what a call leaves for the next, and one answer for each call.
pub mod Signs
pub mod Counts
pub mod Back
pub mod Once
pub mod First
