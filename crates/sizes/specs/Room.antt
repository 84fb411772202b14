-- What a sheet comes to, in the numbers of code: by the counts of its reading, and as rules tell it (`told_of`).
-- Assumes nothing.
use Rattle.std.specs.Prelude.{cond, List, [], ◌∷◌, ℕ, suc, ◌+◌, ◌-◌, ◌*◌, ◌/◌, min, eqb}
use Rattle.records.specs.Outcome.{Outcome, ok, refused}
use Rattle.rules.specs.Settings.{document01}
use Rattle.rules.specs.Columns.{sheet_fault, most_returns}
use Rattle.rules.specs.CircuitReader.{body_lengths}
use Rattle.rules.specs.Sizes as rules
use Rattle.columns.specs.declared.Counts.{Counts}
use Rattle.limits.specs.Sheets.{size_of}
use Rattle.sizes.specs.declared.Sizes.{Sizes}

-- the additions and the products with a constant among the steps of columns with these counts
unfoldable pub adds_made : Counts → ℕ
adds_made c = c.gates + c.tests - c.columns - 3 * (c.products / 2)

unfoldable pub scales_made : Counts → ℕ
scales_made c = 2 * c.entries + c.products - c.published - c.gates

-- the bytes of the steps of some columns, and of a constant in front
unfoldable pub steps_size : Counts → ℕ
steps_size c =
    rules.size_by_kind (body_lengths document01)
    (suc c.constants ∷ c.entries ∷ adds_made c ∷ scales_made c ∷ c.gates ∷ c.tests ∷ [])

-- the wires that the steps of columns make: kinds 1 to 5 make one each
unfoldable pub wires_made : Counts → ℕ
wires_made c = c.constants + c.entries + adds_made c + scales_made c + c.gates

-- the greatest N that opens, by the largest value of all columns
unfoldable pub greatest_of : ℕ → ℕ
greatest_of largest = min most_returns ((document01.modulus - 1) / largest)

-- what counts come to
unfoldable pub sizes_from : Counts → Sizes
sizes_from c = record {
  columns = c.columns;
  entries = c.entries;
  published = c.published;
  wires = 1 + wires_made c;
  multiplications = c.gates;
  tests = c.tests;
  circuit = steps_size c;
  share = 6 + 4 * size_of c.entries c.gates;
  greatest = greatest_of c.largest;
}

-- the numbers of rules in those of code
unfoldable pub in_code : rules.Sizes → Sizes
in_code z = record {
  columns = z.columns;
  entries = z.entries;
  published = z.published;
  wires = z.wires;
  multiplications = z.multiplications;
  tests = z.tests;
  circuit = z.circuit_bytes;
  share = z.share_bytes;
  greatest = z.greatest_returns;
}

-- what a sheet comes to, or its refusal
unfoldable pub told_of : List ℕ → Outcome Sizes
told_of sheet = cond (eqb (sheet_fault sheet) 0) (ok (in_code (rules.sizes_of document01 sheet))) (refused (sheet_fault sheet))
