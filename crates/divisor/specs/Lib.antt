-- What quotients, common divisors and roots of pairs promise.
pub mod Promise
pub mod Steps
