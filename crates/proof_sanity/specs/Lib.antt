pub mod Ready
pub mod Trace
pub mod Moved
pub mod Forgetting
pub mod Timed
pub mod Entered
