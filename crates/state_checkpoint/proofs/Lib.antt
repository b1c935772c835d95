-- Laws that the proofs of `state_checkpoint` cite.
pub mod Fronts
pub mod Parts
