-- What a lent number area holds after a call, and the one promise of the calls that fill one.
pub mod Area
pub mod Promise
