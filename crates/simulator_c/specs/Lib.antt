-- What the contracts of `simulator_c` cite beside `simulator`.
pub mod Interface
