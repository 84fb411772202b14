-- Laws that the proofs of the functions cite, and what antt computes.
pub mod Computing
pub mod Rotations
pub mod States
pub mod Streams
pub mod Vectors
