pub mod Sound
pub mod Passed
pub mod History
pub mod Calls
pub mod Placed
pub mod Shown
