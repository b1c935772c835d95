-- What a server's bytes hold (Holds); when the world of records and the byte world are alike
-- (Alike); clients, lease manager and packets (Parties); a schedule over bytes as one over records (Decoded) with the provisos at one event
-- (Allowed); the greatest of several servers (Holders).
pub mod Holds
pub mod Parties
pub mod Alike
pub mod Decoded
pub mod Allowed
pub mod Holders
