-- What the contracts of `refusals`, and those above it, cite beside `model`.
pub mod Numbers
