-- Laws that the proofs of `state_rows` cite.
pub mod Rows
pub mod Access
pub mod Chains
pub mod Cleared
