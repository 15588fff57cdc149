-- A part more, the answer, and the states that are reached.
pub mod Packed
pub mod Pieces
pub mod Fronts
pub mod More
pub mod Outcome
pub mod Answered
pub mod Laid
pub mod Possible
