-- The definitions that the contracts cite: lengths in hundredths, what a sheet counts for, the totals of a list of sheets, and the
-- promise; `Steps` is for the parts of the program only.
pub mod Hundredths
pub mod Sheets
pub mod Totals
pub mod Promise
pub mod Steps
