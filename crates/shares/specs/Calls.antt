-- What taking a share comes to: what it does to the table, what the buffer is then, and the length that is told where it is not
-- refused. A refusal leaves table and buffer.
-- Assumes nothing.
use Rattle.std.specs.Prelude.{◌≡◌, List, ℕ, Result, length, IfOk}
use Rattle.words.specs.Bytes.{splice}
use Rattle.records.specs.Refusals.{fault_of}
use Rattle.records.specs.Answers.{only_if}
use Rattle.records.specs.declared.Refusal.{Refusal}
use Rattle.rules.specs.Settings.{document01}
use Rattle.rules.specs.Messages.{round_length}
use Rattle.rules.specs.Table.{Lent, share_refused, share_table, share_bytes}
use Rattle.waiting.specs.Changes.{Changes, change_of}
use Rattle.waiting.specs.declared.writing.Sent.{Sent}

-- the share message m with the pair r, s, taken by the table T, whose numbers are es' then; the round message goes to the buffer
-- out
pub record Shares (T : Lent) (m : List ℕ) (r s : ℕ) (out : List ℕ) (answer : Result Sent Refusal) (es' out' : List ℕ) : Type 0 where
  pub changes :
      Changes (share_refused document01 T m r s (length out)) (share_table document01 T m r s) T (fault_of answer) (change_of answer)
      T.bytes es'
  pub out_is : out' ≡ only_if (share_refused document01 T m r s (length out)) (splice out 0 (share_bytes document01 T m r s)) out
  pub written_is : IfOk answer (λ x. x.written ≡ round_length document01 34)
