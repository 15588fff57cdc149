-- The theory of the totals: curves one after another, sizes, one sheet more, that each promise has one answer, and a box worked out by hand.
pub mod Reached
pub mod Lists
pub mod Running
pub mod Sizes
pub mod Walked
pub mod More
pub mod Once
pub mod First
pub mod Bounds
pub mod Complete
pub mod Examples
