-- What is claimed across crates.
pub mod Built
pub mod Joined
