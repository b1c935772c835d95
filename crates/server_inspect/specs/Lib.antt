-- What the contracts of `server_inspect` cite beside `model`.
pub mod Places
pub mod Inspected
