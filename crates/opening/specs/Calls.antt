-- What opening comes to: its answer, which is the length of the table, and what the bytes and the numbers hold then. A refusal
-- leaves them. The records are cleared by whoever was lent them.
-- Assumes nothing.
use Rattle.std.specs.Prelude.{◌≡◌, List, ℕ, Result, length, replicate}
use Rattle.words.specs.Bytes.{splice}
use Rattle.records.specs.Refusals.{outcome_of}
use Rattle.records.specs.Answers.{answered, only_if}
use Rattle.records.specs.declared.Refusal.{Refusal}
use Rattle.rules.specs.Settings.{document01}
use Rattle.rules.specs.Columns.{columns_of}
use Rattle.rules.specs.WaitingList.{run_size}
use Rattle.rules.specs.Table.{open_refusal, open_length, open_bytes}

-- opening a table in the bytes T, so many records and the numbers E
module _ (servers own : ℕ) (sheet : List ℕ) (returns least : ℕ) (T : List ℕ) (records : ℕ) (E : List ℕ) where
  abbrev pub refusal_of : ℕ
  refusal_of = open_refusal document01 servers own sheet returns least (length T) records (length E)

  pub record Opens (r : Result ℕ Refusal) (T' E' : List ℕ) : Type 0 where
    pub answer_is : outcome_of r ≡ answered refusal_of (open_length document01 sheet returns)
    pub table_is : T' ≡ only_if refusal_of (splice T 0 (open_bytes document01 servers own sheet returns least)) T
    pub numbers_are : E' ≡ only_if refusal_of (splice E 0 (replicate (run_size (columns_of sheet)) 0)) E
