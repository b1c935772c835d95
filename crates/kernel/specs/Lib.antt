-- What the contracts of `kernel` cite beside `model`.
pub mod Interface
