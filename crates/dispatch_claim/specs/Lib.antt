-- The dispatcher. Dispatcher: what each call answers. Fair: its promise, of every list of calls. Queues: the dispatchers of a plant above the kernel, and what
-- their schedules are to demand 3.
pub mod Dispatcher
pub mod Fair
pub mod Queues
