pub mod Waiting
pub mod Fair
pub mod Beside
pub mod Queues
pub mod Opened
pub mod Cases
