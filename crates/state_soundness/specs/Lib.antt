-- Definitions that the contracts of `state_soundness` cite.
pub mod Slots
