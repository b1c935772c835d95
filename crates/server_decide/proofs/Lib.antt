-- Laws that the proofs of `server_decide` cite.
pub mod Nots
pub mod Lists
