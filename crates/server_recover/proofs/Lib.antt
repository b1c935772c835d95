-- Laws that the proofs of `server_recover` cite.
pub mod SecondWalk
pub mod Steps
pub mod Rebuilding
