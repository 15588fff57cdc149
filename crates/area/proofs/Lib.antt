-- Areas after a call, and the one answer of the promise.
pub mod Areas
pub mod Promises
