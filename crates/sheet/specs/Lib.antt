-- The definitions that the contracts cite: what a walk over a sheet finds, and what each call and the walk itself promise.
pub mod Survey
pub mod Promise
pub mod Walks
