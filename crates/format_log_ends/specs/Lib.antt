-- What the contracts of `format_log_ends` cite.
pub mod Answers
pub mod Walked
pub mod Records
