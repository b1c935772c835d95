-- What the contracts of `format_log_writer` cite.
pub mod Fronts
