-- What the contracts of `state_clients` cite beside `model` and `model_laws`.
pub mod Places
pub mod Ordered
