-- Laws that the proofs of the functions cite, and that callers may.
pub mod Identities
pub mod Adding
pub mod Through
