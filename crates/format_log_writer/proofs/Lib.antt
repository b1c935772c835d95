-- Laws that the proofs of `format_log_writer` cite.
pub mod Writing
