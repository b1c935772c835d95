-- Laws that the proofs of `server_memory`, and of the operations, cite.
pub mod Settled
