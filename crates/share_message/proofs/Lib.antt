-- Laws that the proofs of the functions cite, and that callers may: Shares joins rules' definitions to those of specs/.
pub mod Shares
pub mod Writing
