-- A server's calls with all that they read named part by part (Reads), the world of records over them (World), schedules to compute (Schedules).
pub mod Reads
pub mod World
pub mod Schedules
