-- The definitions that the contracts cite: what each call on a curve promises.
pub mod Promise
