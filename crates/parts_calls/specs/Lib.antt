-- The definitions that the contracts cite: a state as numbers, and what each call promises; `Steps` is for the parts of the program only.
pub mod Numbers
pub mod Promise
pub mod Steps
