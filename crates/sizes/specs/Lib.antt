-- What the crate's code answers, in the numbers of code.
pub mod Room
