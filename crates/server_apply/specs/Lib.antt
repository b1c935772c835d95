-- What the laws of `server_apply` speak of.
pub mod Stage
pub mod Room
pub mod Taking
