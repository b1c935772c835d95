-- Laws that the proofs of `state_sound_rows`, and of those who call it, cite.
pub mod Chains
pub mod Loops
pub mod Zeros
pub mod Points
pub mod Heads
pub mod Framing
