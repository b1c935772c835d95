-- The abstract world of demand 3: Servers (log records, states, packets), World (all parties, kinds of change, a run), Allowed (when a change
-- may happen), Explains and Fence (the statements).
pub mod Servers
pub mod World
pub mod Allowed
pub mod Explains
pub mod Fence
