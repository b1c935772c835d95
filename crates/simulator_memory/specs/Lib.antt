-- What the contracts of `simulator_memory` cite beside `model` and `simulator_text`.
pub mod Store
pub mod Steps
