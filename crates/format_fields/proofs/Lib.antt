-- Laws that the proofs of `format_fields` cite.
pub mod Forms
