-- What dropping and closing come to: the answer, what they do to the table of three parts, and for a close the buffer. A refusal
-- leaves all as it was.
-- Assumes nothing.
use Rattle.std.specs.Prelude.{◌≡◌, List, ℕ, Result, length}
use Rattle.std.specs.Result.{result_ok}
use Rattle.words.specs.Bytes.{splice}
use Rattle.records.specs.Refusals.{fault_of, outcome_of}
use Rattle.records.specs.Answers.{answered, only_if}
use Rattle.records.specs.declared.Refusal.{Refusal}
use Rattle.slots.specs.declared.Change.{Change}
use Rattle.rules.specs.Settings.{document01}
use Rattle.rules.specs.Server.{totals_length}
use Rattle.rules.specs.Table.{Lent, opened_in, drop_refused, drop_table, close_refused, close_table, close_bytes}
use Rattle.waiting.specs.Changes.{lent, unless_refused, Changes}

-- r is the answer, with what the drop does to the list; t and es are the bytes and the numbers that it leaves
abbrev pub Drops : Lent → ℕ → Result Change Refusal → List ℕ → List ℕ → Type 0
Drops T id r t es = Changes (drop_refused document01 T id) (drop_table document01 T id) T (fault_of r) (result_ok r) t es

-- r is the answer, which is the length of the message; t are the bytes that the close leaves, its records and numbers stay
pub record Closes (T : Lent) (out : List ℕ) (r : Result ℕ Refusal) (t out' : List ℕ) : Type 0 where
  pub answer_is : outcome_of r
      ≡ answered (close_refused document01 T (length out)) (totals_length document01 (opened_in document01 T.bytes))
  pub out_is : out' ≡ only_if (close_refused document01 T (length out)) (splice out 0 (close_bytes document01 T)) out
  pub table_is : lent t T.slots T.elements ≡ unless_refused (close_refused document01 T (length out)) (close_table document01 T) T
