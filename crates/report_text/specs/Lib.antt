-- The definitions that the contract cites: the text of a report, and the promise; `Steps` is for the parts of the program only.
pub mod Texts
pub mod Promise
pub mod Steps
