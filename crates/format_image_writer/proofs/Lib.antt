-- Laws that the proofs of `format_image_writer`, and of those who call it, cite.
pub mod Runs
