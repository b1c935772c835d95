-- Definitions that the contracts of `state_sound_rows` cite.
pub mod Parts
