-- Laws that the proofs of `simulator_c` cite.
pub mod Words
