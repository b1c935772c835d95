-- What the contracts of `simulator` cite: a line at a server, at a client, the whole simulator, the run of a text.
pub mod Served
pub mod Server
pub mod Attended
pub mod Whole
pub mod Run
pub mod Lending
