-- The definitions that the contracts cite: verdicts, the rules of the legs, the promise; `Steps` is for the parts of the program only.
pub mod Verdicts
pub mod Rules
pub mod Promise
pub mod Steps
