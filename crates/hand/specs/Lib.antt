-- The definitions that the contracts cite: how an answer is handed over.
pub mod Promise
