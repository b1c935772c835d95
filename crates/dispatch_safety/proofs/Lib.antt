pub mod Joined
pub mod Computed
pub mod NotVacuous
