-- What the contracts of `server_memory` cite beside `model`.
pub mod Memory
