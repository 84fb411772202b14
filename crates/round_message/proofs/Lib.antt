-- Laws that the proofs of the functions cite, and that callers may: Rounds joins rules' definitions to those of specs/.
pub mod Rounds
pub mod Writing
pub mod Every
