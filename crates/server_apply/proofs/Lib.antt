-- Laws that the proofs of `server_apply` cite.
pub mod Composed
pub mod Stages
pub mod Gave
pub mod Released
pub mod Gone
pub mod Executed
pub mod Taken
pub mod Rooms
