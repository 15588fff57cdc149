-- The definitions of a search for a root, over any ring and over whole numbers.
pub mod Search
pub mod Promise
pub mod Steps
