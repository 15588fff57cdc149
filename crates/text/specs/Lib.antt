-- The definitions that the contracts cite: texts as bytes, and what a lent byte area holds; `Steps` is for who writes a text in pieces.
pub mod Texts
pub mod Promise
pub mod Steps
