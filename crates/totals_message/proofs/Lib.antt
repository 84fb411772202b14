-- Laws that the proofs of the functions cite, and that callers may: Totals joins rules' definitions to those of specs/.
pub mod Totals
pub mod Writing
