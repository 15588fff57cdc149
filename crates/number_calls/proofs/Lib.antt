-- One answer of each call on a number.
pub mod Once
