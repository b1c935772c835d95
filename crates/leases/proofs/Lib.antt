-- Laws that the proofs of `leases` cite, and laws of the definitions for other crates.
pub mod Places
pub mod Answers
