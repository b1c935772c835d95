pub mod Cases
pub mod SimulatorCases
pub mod WalkCases
