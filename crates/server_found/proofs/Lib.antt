-- Laws that the proofs of `server_found`, and of those who call it, cite.
pub mod Founded
