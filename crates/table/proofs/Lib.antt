-- Laws of the definitions that the code goes by.
pub mod Ids
pub mod Header
pub mod Judged
pub mod Answers
pub mod Waiting
pub mod Stages
pub mod Decided
