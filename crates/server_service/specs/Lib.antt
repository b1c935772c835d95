-- What the contracts of `server_service` cite beside `model`.
pub mod Decisions
