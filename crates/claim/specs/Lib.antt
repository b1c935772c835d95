-- Demand 3: World runs the definitions of `model` over a schedule, Provisos are the customer's conditions, Claim is the statement. Fence has
-- the kernel's further promises, Times what follows of times of execution, Above the schedules of a product above the kernel.
-- The same over states and log records: RecordWorld, RecordProvisos, RecordClaim, RecordFence; Samples and Kept are schedules to compute there.
pub mod World
pub mod Provisos
pub mod Claim
pub mod Fence
pub mod Times
pub mod Above
pub mod RecordWorld
pub mod RecordProvisos
pub mod RecordClaim
pub mod RecordFence
pub mod Samples
pub mod Kept
