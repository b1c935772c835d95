-- What the contracts of `server_moves` cite beside `model`.
pub mod Numbers
pub mod Taking
