-- Laws that the proofs of `client_c` cite.
pub mod Cases
