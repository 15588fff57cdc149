-- What the proofs share, and what other crates may cite.
pub mod Table
pub mod Words
pub mod Heads
pub mod Signs
pub mod Loops
pub mod Pieces
pub mod Erased
pub mod Shown
pub mod Front
pub mod Formed
pub mod Headers
pub mod Putting
pub mod Kept
pub mod Once
