-- Laws that the proofs of `format_floors` cite.
pub mod Rows
