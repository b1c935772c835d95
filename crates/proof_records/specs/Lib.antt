pub mod Likeness
pub mod Made
pub mod Inverse
pub mod Worlds
pub mod Provided
pub mod Matched
