-- The table holds: `Starred`, and so do the sheets: `Pinned`. Certificates for verdicts, and the promises of the calls from a verdict, stand before it.
pub mod Certificates
pub mod Promised
pub mod Joins
pub mod Starred
pub mod Pinned
