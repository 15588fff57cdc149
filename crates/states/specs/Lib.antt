-- The definitions that the contracts cite: bytes in words, and what is left of the bytes that were fed; `Steps` is for the parts of the
-- program only.
pub mod Words
pub mod States
pub mod Steps
