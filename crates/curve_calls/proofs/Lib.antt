-- One answer of each call.
pub mod Once
