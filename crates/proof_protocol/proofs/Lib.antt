-- One order explains every run of the abstract world: RealTime.explained; and the fence: Fence.fenced. docs/PROTOCOL.md has the map of the modules and a
-- paragraph for each invariant.
pub mod Basics
pub mod Floors
pub mod Memory
pub mod Logs
pub mod Token
pub mod Core
pub mod Facts
pub mod Leases
pub mod Clients
pub mod Inv
pub mod Top
pub mod Order
pub mod Final
pub mod Trace
pub mod Survive
pub mod RealTime
pub mod Fence
