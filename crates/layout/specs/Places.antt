-- The places of a table by plain numbers: the length n of the sheet, the published entries and N; and the numbers of a place in
-- the run of numbers. They are rules' places at document 01's setting (proofs/Positions).
-- Assumes nothing.
use Rattle.std.specs.Prelude.{ℕ, ◌+◌, ◌*◌, ◌≤◌}
use Rattle.rules.specs.Table.{header_length}
use Rattle.limits.specs.Sheets.{size_of}

abbrev pub totals_at : ℕ → ℕ
totals_at n = header_length + n

abbrev pub ids_at : ℕ → ℕ → ℕ
ids_at n published = header_length + n + 4 * published

abbrev pub length_at : ℕ → ℕ → ℕ → ℕ
length_at n published returns = header_length + n + 4 * published + 4 * returns

-- rules' placeSize: the elements of a share, and two numbers more
abbrev pub place_size_of : ℕ → ℕ → ℕ
place_size_of entries gates = size_of entries gates + 2

-- the numbers of a sheet that is read, and of N
pub record Small (n published returns : ℕ) : Type 0 where
  pub sheet_most : n ≤ 426
  pub published_most : published ≤ 256
  pub returns_most : returns ≤ 1024
