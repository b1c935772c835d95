-- Laws that the proofs of `state_restore`, and of those who call it, cite.
pub mod Lengths
pub mod Runs
pub mod Answers
