-- What the call comes to: its answer, and what the buffer holds then. A refusal leaves the buffer.
-- Assumes nothing.
use Rattle.std.specs.Prelude.{◌≡◌, List, ℕ, ◌*◌, length}
use Rattle.words.specs.Bytes.{splice}
use Rattle.records.specs.Outcome.{Outcome}
use Rattle.records.specs.Answers.{answered, only_if}
use Rattle.rules.specs.Settings.{document01}
use Rattle.rules.specs.Columns.{columns_of}
use Rattle.rules.specs.Making.{share_length, make_refusal, make_bytes}

-- making a return of the values, for S servers and an id, with the random elements, in the buffer `out`
pub record Makes (sheet : List ℕ) (servers id : ℕ) (values random out : List ℕ) (a : Outcome ℕ) (out' : List ℕ) : Type 0 where
  pub answer_is : a
      ≡ answered (make_refusal document01 sheet servers values random (length out))
      (servers * share_length document01 (columns_of sheet))
  pub out_is : out'
      ≡ only_if (make_refusal document01 sheet servers values random (length out))
      (splice out 0 (make_bytes document01 sheet servers id values random)) out
