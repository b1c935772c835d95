-- Laws that the proofs of `format_image_reader`, and of those who call it, cite.
pub mod Tables
pub mod Whole
