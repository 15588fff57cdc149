-- What the proofs of the calls use, and the one way in which an answer is handed over.
pub mod Areas
pub mod Handing
