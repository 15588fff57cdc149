-- What a proof of this crate stands on.
pub mod Prefixes
