-- The definitions that the contracts cite: what each call on a sheet promises.
pub mod Promise
