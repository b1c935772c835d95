-- What the contracts of `state_image` cite beside `model`.
pub mod Slots
