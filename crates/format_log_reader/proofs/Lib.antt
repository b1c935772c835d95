-- Laws that the proofs of `format_log_reader` cite, and laws of its answers.
pub mod Reading
