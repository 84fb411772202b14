-- The reading of a run of records, with the first refusal; refusals by number; what a call that writes leaves. Read Outcome, Records, Refusals, Answers.
pub mod Outcome
pub mod Records
pub mod Refusals
pub mod Answers
