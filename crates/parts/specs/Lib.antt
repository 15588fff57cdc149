-- The definitions that the contracts cite: what each call promises.
pub mod Promise
