-- The degree of the polynomials that tables are for.
-- Assumes nothing.
use Rattle.std.specs.Prelude.{ℕ, length}
use Rattle.prover.specs.declared.tables.Tables.{Tables}

abbrev pub degree : Tables → ℕ
degree t = length t.falls.now
