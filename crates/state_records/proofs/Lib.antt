-- Laws that the proofs of `state_records`, and of those who call it, cite.
pub mod Search
pub mod Kept
pub mod Unmoved
pub mod Gather
pub mod Loops
pub mod Whole
pub mod Chained
pub mod Unheld
