-- Laws that the proofs share: a difference of products in an i64, the column that a number names, the refusals in their order, and
-- the answers.
pub mod Words
pub mod Finding
pub mod Placing
pub mod Answers
