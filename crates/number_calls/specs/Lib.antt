-- The definitions that the contracts cite: what each call on a number promises.
pub mod Promise
