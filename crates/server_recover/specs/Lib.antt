-- What the contracts of `server_recover` cite beside `model`.
pub mod Remaining
pub mod Rebuilt
