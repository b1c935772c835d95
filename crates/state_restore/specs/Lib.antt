-- Definitions that the contracts of `state_restore` cite.
pub mod Parts
pub mod Restored
