-- The theory of building, and what the proofs of the parts cite.
pub mod Sizes
pub mod Triples
pub mod Legs
pub mod Answers
pub mod Once
pub mod Examples
