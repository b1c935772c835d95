-- Laws that the proofs of `server_moves` cite.
pub mod Chains
pub mod Taken
