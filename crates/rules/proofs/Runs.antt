-- Demand 3: verdicts, the same ids, totals; a sound return is handled; calls on different returns mixed; refusals; the whole
-- claim; returns that making wrote; servers that go on after a stop.
pub mod Agreement
pub mod Refusing
pub mod VerdictFirst
pub mod OneChallenge
pub mod Verdicts
pub mod Alike
pub mod FewReturns
pub mod SameIds
pub mod EnteredAll
pub mod WithinLimits
pub mod Enough
pub mod JoinedTotals
pub mod WholeTotals
pub mod Resuming
pub mod SoundShare
pub mod Holding
pub mod Handled
pub mod OneReturn
pub mod Mixed
pub mod WholeRuns
pub mod Delivered
pub mod EncodedTotals
pub mod MadeRuns
pub mod FittedLine
