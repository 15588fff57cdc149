-- The definitions that the contracts cite, and those of a text by its lines and words.
pub mod Places
pub mod Numbers
pub mod Texts
