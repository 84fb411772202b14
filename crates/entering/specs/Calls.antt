-- What entering a return comes to: what it does to the table of three parts. A refusal leaves all as it was.
-- Assumes nothing.
use Rattle.std.specs.Prelude.{List, ℕ, Result}
use Rattle.std.specs.Result.{result_ok}
use Rattle.records.specs.Refusals.{fault_of}
use Rattle.records.specs.declared.Refusal.{Refusal}
use Rattle.slots.specs.declared.Change.{Change}
use Rattle.rules.specs.Settings.{document01}
use Rattle.rules.specs.Table.{Lent, enter_refused, enter_table}
use Rattle.waiting.specs.Changes.{Changes}

-- answer is what the entry does to the list, t and es are the bytes and the numbers that it leaves
abbrev pub Enters : Lent → ℕ → Result Change Refusal → List ℕ → List ℕ → Type 0
Enters T id answer t es = Changes (enter_refused document01 T id) (enter_table document01 T id) T (fault_of answer) (result_ok answer) t es
