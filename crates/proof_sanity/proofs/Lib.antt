pub mod Calls
pub mod Rejected
pub mod NotVacuous
pub mod Traced
pub mod Computed
pub mod Forgetting
pub mod Timed
pub mod Entered
