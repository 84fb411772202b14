-- Laws that the proofs of joining share: answers by a number, the refusals in their order, the loop that writes the totals, and
-- the answers.
pub mod Faults
pub mod Pooling
pub mod Judging
pub mod Filling
pub mod Answers
