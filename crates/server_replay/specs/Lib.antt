-- What the contracts of `server_replay` cite beside `model`.
pub mod Standing
pub mod Imaged
