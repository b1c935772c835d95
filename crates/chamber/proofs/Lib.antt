-- Laws that the proofs of `chamber` cite, and laws of the definitions.
pub mod Answers
pub mod Laws
