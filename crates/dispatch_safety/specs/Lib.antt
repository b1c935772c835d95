-- Queued: a schedule with a dispatcher. Plant: dispatchers and the controllers of a lock side by side.
pub mod Queued
pub mod Plant
