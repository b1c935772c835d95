pub mod Table
pub mod Schedules
pub mod Walks
