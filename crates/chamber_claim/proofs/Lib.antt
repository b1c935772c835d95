-- The lock's theorem. Orders: places of an order and the values at them. Commands: what a command and a start passed. Frame: events of a lock.
-- Controllers: what holds of a controller along a schedule. Successors: one after another. Safe: the theorem. Moments: schedules cut short. Opened, Cases: worked cases, computed.
pub mod Orders
pub mod Commands
pub mod Frame
pub mod Controllers
pub mod Successors
pub mod Safe
pub mod Moments
pub mod Opened
pub mod Cases
