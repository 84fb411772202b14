-- What round one comes to on the table T: what it does to the list of records, what the buffer holds then, and the length that is
-- told where it is not refused. The bytes and the numbers of the table are as they were, and a refusal leaves all.
-- Assumes nothing.
use Rattle.std.specs.Prelude.{◌≡◌, List, ℕ, Result, length, IfOk}
use Rattle.words.specs.Bytes.{splice}
use Rattle.records.specs.Refusals.{fault_of}
use Rattle.records.specs.Answers.{only_if}
use Rattle.records.specs.declared.Refusal.{Refusal}
use Rattle.rules.specs.Settings.{document01}
use Rattle.rules.specs.Messages.{round_length}
use Rattle.rules.specs.Table.{Lent, one_refused, one_table, one_bytes}
use Rattle.waiting.specs.Changes.{Changes, change_of}
use Rattle.waiting.specs.declared.writing.Sent.{Sent}

pub record RoundOne (T : Lent) (id : ℕ) (joined out : List ℕ) (answer : Result Sent Refusal) (out' : List ℕ) : Type 0 where
  pub changes :
      Changes (one_refused document01 T id joined (length out)) (one_table document01 T id joined) T (fault_of answer) (change_of answer)
      T.bytes T.elements
  pub out_is : out' ≡ only_if (one_refused document01 T id joined (length out)) (splice out 0 (one_bytes document01 T id joined)) out
  pub written_is : IfOk answer (λ x. x.written ≡ round_length document01 35)
