-- Laws that the proofs of `format_log_ends`, and of those who call it, cite.
pub mod Ends
pub mod Walked
