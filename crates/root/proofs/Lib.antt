-- The theory of roots, over any ring or domain, and one answer.
pub mod Squared
pub mod Leads
pub mod Candidates
pub mod Downward
pub mod Shifting
pub mod Once
