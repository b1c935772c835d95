-- Laws that the proofs of `server_checkpoint` cite.
pub mod Passed
pub mod Taken
