-- What the call comes to: its answer, and what the buffer holds then. A refusal leaves the buffer.
-- Assumes nothing.
use Rattle.std.specs.Prelude.{◌≡◌, List, ℕ, length}
use Rattle.words.specs.Bytes.{splice}
use Rattle.records.specs.Outcome.{Outcome}
use Rattle.records.specs.Answers.{answered, only_if}
use Rattle.rules.specs.Settings.{document01}
use Rattle.rules.specs.Columns.{columns_of}
use Rattle.rules.specs.Seeds.{seeded_length, make_seeded_refusal, make_seeded_bytes}

-- making a return of the values, for S servers and an id, with four random elements and S - 1 seeds, in the buffer `out`
pub record MakesSeeded (sheet : List ℕ) (servers id : ℕ) (values random seeds out : List ℕ) (a : Outcome ℕ) (out' : List ℕ) : Type 0 where
  pub answer_is : a
      ≡ answered (make_seeded_refusal document01 sheet servers values random seeds (length out))
      (seeded_length document01 (columns_of sheet) servers)
  pub out_is : out'
      ≡ only_if (make_seeded_refusal document01 sheet servers values random seeds (length out))
      (splice out 0 (make_seeded_bytes document01 sheet servers id values random seeds)) out
