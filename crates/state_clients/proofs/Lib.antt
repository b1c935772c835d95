-- Laws that the proofs of `state_clients`, and of those who call it, cite.
pub mod Raised
pub mod Loops
pub mod Own
pub mod Search
pub mod Slots
pub mod Stored
pub mod Changed
