-- Laws that the proofs of the functions cite, and that callers may.
pub mod Numbers
pub mod Curves
pub mod Folding
pub mod RoundNumbers
pub mod ShareRoom
