-- Laws that the proofs of the functions cite, and that callers may.
pub mod Room
pub mod Answered
pub mod Refusals
pub mod Filling
pub mod Changing
pub mod Legality
pub mod WholeList
pub mod FirstMessage
