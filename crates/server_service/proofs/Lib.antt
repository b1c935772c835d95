-- Laws that the proofs of `server_service` cite.
pub mod Chains
pub mod Passed
pub mod Requests
