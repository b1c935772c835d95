-- Laws that the proofs of `kernel` cite.
pub mod Words
