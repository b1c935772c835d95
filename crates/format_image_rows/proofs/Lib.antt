-- Laws that the proofs of `format_image_rows` cite.
pub mod Rows
