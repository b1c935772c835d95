-- Laws of refusals and outcomes that callers cite.
pub mod Numbers
