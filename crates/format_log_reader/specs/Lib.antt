-- What the contracts of `format_log_reader` cite.
pub mod Answers
