-- Laws that the proofs of `format_numbers` cite.
pub mod Past
pub mod Picks
pub mod Chains
pub mod Copies
