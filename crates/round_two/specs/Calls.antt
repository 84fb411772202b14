-- What round two comes to on the table T: what it does to the list of records, the bytes and the numbers that it leaves, and
-- the verdict where it is not refused. A refusal leaves all.
-- Assumes nothing.
use Rattle.std.specs.Prelude.{◌≡◌, List, ℕ, Option, None, Some, Result, Ok, Err, IfOk}
use Rattle.records.specs.Refusals.{fault_of}
use Rattle.records.specs.declared.Refusal.{Refusal}
use Rattle.slots.specs.declared.Change.{Change}
use Rattle.rules.specs.Settings.{document01}
use Rattle.rules.specs.Table.{Lent, two_refused, two_verdict, two_table}
use Rattle.waiting.specs.Changes.{Changes}
use Rattle.round_two.specs.declared.Decision.{Decision}

-- what it does to the list
abbrev pub change_of : Result Decision Refusal → Option Change
change_of (Ok d) = Some d.change
change_of (Err r) = None

pub record RoundTwo (T : Lent) (id : ℕ) (joined : List ℕ) (answer : Result Decision Refusal) (t' es' : List ℕ) : Type 0 where
  pub changes :
      Changes (two_refused document01 T id joined) (two_table document01 T id joined) T (fault_of answer) (change_of answer) t' es'
  pub accepted_is : IfOk answer (λ d. d.accepted ≡ two_verdict document01 T joined)
