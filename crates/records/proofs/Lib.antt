pub mod Outcome
pub mod Refusals
pub mod Answers
pub mod Records
pub mod Runs
pub mod Example
