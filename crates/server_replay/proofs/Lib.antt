-- Laws that the proofs of `server_replay`, and of those who call it, cite.
pub mod Following
pub mod Rooms
pub mod Taking
