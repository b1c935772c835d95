-- Laws that the proofs of `client` cite, and laws of the definitions for other crates.
pub mod Places
pub mod Answers
pub mod Others
