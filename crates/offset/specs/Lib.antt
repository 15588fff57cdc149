-- The definitions that the contracts cite: offsets and the promise; `Steps` is for the parts of the program only.
pub mod Promise
pub mod Steps
