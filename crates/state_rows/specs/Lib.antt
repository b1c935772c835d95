-- What the contracts of `state_rows` cite beside `model` and `model_laws`.
pub mod Canonical
