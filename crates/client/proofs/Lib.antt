-- Laws that the proofs of the functions cite.
pub mod Refusals
pub mod RandomWords
pub mod FirstShare
pub mod Writing
pub mod Messages
pub mod Given
