-- Laws that the proofs of `dispatch` cite.
pub mod Places
pub mod Answers
