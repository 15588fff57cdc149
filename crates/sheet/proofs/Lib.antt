-- What the proofs share, and, in Surveys, Moved, Missions, Places, Once, Laws, Kept, Ahead, Next, Faults, Examples and Started, what other crates may cite.
pub mod Surveys
pub mod Moved
pub mod Standing
pub mod Missions
pub mod Passed
pub mod Places
pub mod Told
pub mod Changed
pub mod Appended
pub mod Once
pub mod Laws
pub mod Kept
pub mod Ahead
pub mod Next
pub mod Faults
pub mod Examples
pub mod Started
