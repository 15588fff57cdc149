-- The definitions that the contracts cite, from a number's bytes up to one step of reading a sheet.
pub mod Numbers
pub mod Kinds
pub mod Records
pub mod Promise
pub mod Steps
