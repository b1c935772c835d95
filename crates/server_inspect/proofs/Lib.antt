-- Laws that the proofs of `server_inspect` cite.
pub mod Rows
pub mod Latest
pub mod Kept
pub mod Refusing
pub mod Holding
pub mod Placed
