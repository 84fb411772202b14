-- What the reader of a sheet answers: the counts of its columns, or the number of the refusal.
-- Assumes nothing.
use Rattle.std.specs.Prelude.{cond, List, ℕ, ◌+◌, ◌-◌, ◌/◌, ◌≤◌, max, leb}
use Rattle.records.specs.Outcome.{Outcome, ok, refused}
use Rattle.rules.specs.Columns.{Column, within, read_sheet}
use Rattle.columns.specs.declared.Counts.{Counts}
use Rattle.columns.specs.Counting.{counts_of}

unfoldable pub reading : Outcome (List Column) → Outcome Counts
reading (ok cs) = ok (counts_of cs)
reading (refused n) = refused n

unfoldable pub reading_of : List ℕ → Outcome Counts
reading_of s = reading (read_sheet s)

-- ---- the parts of the reader
-- the counts of two runs of columns, but for the constants of the second
abbrev pub plus : Counts → Counts → Counts
plus c d =
    record {
      columns = c.columns + d.columns;
      entries = c.entries + d.entries;
      published = c.published + d.published;
      constants = c.constants;
      gates = c.gates + d.gates;
      products = c.products + d.products;
      tests = c.tests + d.tests;
      largest = max c.largest d.largest;
    }

-- one column more; past the limit of entries nothing is counted any more
unfoldable pub more : Counts → Counts → Counts
more c d = cond (leb c.entries 256) (plus c d) c

-- the counts of a sheet of so many bytes with its constants: behind its kind byte a column has a byte for each of its sums, one for
-- the two sums of a point, and two more for a constant
abbrev pub with_constants : Counts → ℕ → Counts
with_constants c bytes =
    record {
      columns = c.columns;
      entries = c.entries;
      published = c.published;
      constants = (bytes - c.columns - (c.tests - c.gates - c.products / 2)) / 2;
      gates = c.gates;
      products = c.products;
      tests = c.tests;
      largest = c.largest;
    }

-- so it has, where the limit is kept
pub record Countable (c : Counts) (bytes : ℕ) : Type 0 where
  pub sums : c.entries ≤ 256 → c.gates + c.products / 2 ≤ c.tests
  pub bodies : c.entries ≤ 256 → c.columns + (c.tests - c.gates - c.products / 2) ≤ bytes

-- the total limit, last
unfoldable pub limited : Counts → ℕ → Outcome Counts
limited c bytes = cond (within 1 256 c.entries) (ok (with_constants c bytes)) (refused 2)
