-- What the contracts of this crate cite besides algebra: the prime, and arithmetic modulo it.
pub mod Residues
