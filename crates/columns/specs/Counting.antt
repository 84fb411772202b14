-- What columns come to, in the numbers of code.
-- Assumes nothing.
use Rattle.std.specs.Prelude.{List, ℕ, ◌+◌, ◌*◌, ◌≤◌, length}
use Rattle.rules.specs.Columns.{Column, entries_in, published_in, largest_in}
use Rattle.rules.specs.Circuit.{constants_in, gates_in, products_in, tests_in}
use Rattle.columns.specs.declared.Counts.{Counts}

abbrev pub counts_of : List Column → Counts
counts_of cs =
    record {
      columns = length cs;
      entries = entries_in cs;
      published = published_in cs;
      constants = constants_in cs;
      gates = gates_in cs;
      products = products_in cs;
      tests = tests_in cs;
      largest = largest_in cs;
    }

-- at most e entries, the other counts bounded by them, and the largest value by that of 24 bits
pub record Small (e : ℕ) (c : Counts) : Type 0 where
  pub entries_most : c.entries ≤ e
  pub columns_most : c.columns ≤ c.entries
  pub published_most : c.published ≤ c.entries
  pub constants_most : c.constants ≤ c.entries
  pub gates_most : c.gates ≤ c.entries
  pub products_most : c.products ≤ c.gates
  pub tests_many : c.columns + c.products ≤ c.tests
  pub tests_most : c.tests ≤ 2 * c.entries
  pub largest_most : c.largest ≤ 16777215
