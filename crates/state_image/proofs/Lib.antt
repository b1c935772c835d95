-- Laws that the proofs of `state_image`, and of those who call it, cite.
pub mod Order
pub mod Filled
pub mod Picking
pub mod Writing
pub mod Joined
pub mod Whole
pub mod Back
