-- Laws that the proofs of `state_soundness`, and of those who call it, cite.
pub mod Places
pub mod Hints
pub mod Records
pub mod Slots
pub mod Pass
pub mod Whole
