-- Laws that the proofs of the functions cite.
pub mod Sums
pub mod Writing
pub mod FirstShare
pub mod Refusals
pub mod Given
