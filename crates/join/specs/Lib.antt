-- The definitions that the contracts cite: the list of joins, the curves of its triples; `Steps` is for the parts of the program only.
pub mod Promise
pub mod Curves
pub mod Steps
