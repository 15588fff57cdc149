-- One answer for each call.
pub mod Once
