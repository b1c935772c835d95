-- Laws that the proofs of `chamber_c` cite.
pub mod Past
