-- Refusals by their numbers: a Result of the code as the number of its refusal, 0 for none, and as an Outcome of the rules.
-- Assumes nothing.
use Rattle.std.specs.Prelude.{ℕ, Result, Ok, Err}
use Rattle.records.specs.Outcome.{Outcome, ok, refused}
use Rattle.records.specs.declared.Refusal.{Refusal}
use Rattle.records.specs.declared.Refusal.TheVariants as why

abbrev pub number_of : Refusal → ℕ
number_of why.Kind = 1
number_of why.Limit = 2
number_of why.Wire = 3
number_of why.Wrap = 4
number_of why.Value = 5
number_of why.Random = 6
number_of why.Share = 7
number_of why.Element = 8
number_of why.Pair = 9
number_of why.Decided = 10
number_of why.Stage = 11
number_of why.Joined = 12
number_of why.Full = 13
number_of why.Room = 14
number_of why.Few = 15
number_of why.Unequal = 16
number_of why.Many = 17
number_of why.NoLine = 18
number_of why.Run = 19

module _ {A : Type 0} where
  -- the number of the refusal, 0 for none
  abbrev pub fault_of : Result A Refusal → ℕ
  fault_of (Ok a) = 0
  fault_of (Err r) = number_of r

  -- the result, or the number of the refusal
  abbrev pub outcome_of : Result A Refusal → Outcome A
  outcome_of (Ok a) = ok a
  outcome_of (Err r) = refused (number_of r)
