-- What the contracts of `server_decide` cite beside `model`.
pub mod Lists
