-- What the contracts of `state_records` cite beside `model` and `model_laws`.
pub mod Rules
