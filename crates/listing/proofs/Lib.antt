-- Laws that the proofs of the text share: decimal digits, runs put one after the other, lines, the walk over columns, the
-- text by what joining answers, and by the input.
pub mod Decimals
pub mod Puts
pub mod Lines
pub mod Walking
pub mod Texts
pub mod Inputs
pub mod Starts
