-- Laws that the proofs of `format_packet_reader` cite.
pub mod Whole
