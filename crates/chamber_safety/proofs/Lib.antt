pub mod Kept
pub mod Computed
pub mod NotVacuous
pub mod Locks
