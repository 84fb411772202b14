-- `line::difference` meets its contract: both products are small, so their difference fits an i64 (`minus_fits`).
-- Assumes nothing.
use mathlib.Core.Path.{ap₂}
use Prim.Native.Nat.{◌*◌}
use lib.IntN.{◌-ℤ◌}
use Rattle.line.proofs.Words.{low_bits, minus_fits, read_back}
use Rattle.line.proofs.difference.Goals as goal

pub overflow_sub-result : goal.overflow_sub-result
overflow_sub-result c =
    let a = c.args in
    rw (low_bits (a.a * a.b) c.requires.0, low_bits (a.c * a.d) c.requires.1)
    (minus_fits (a.a * a.b) (a.c * a.d) c.requires.0 c.requires.1)

pub returns : goal.returns
returns c =
    let a = c.args in
    read_back (a.a * a.b) (a.c * a.d) c.requires.0 c.requires.1
    (ap₂ ◌-ℤ◌ (low_bits (a.a * a.b) c.requires.0) (low_bits (a.c * a.d) c.requires.1))
