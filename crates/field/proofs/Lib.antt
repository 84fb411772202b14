-- Laws that the proofs of the functions cite, and that callers may.
pub mod Reduction
pub mod Below
