-- What holds across the crates of curves.
pub mod Built
pub mod Joined
