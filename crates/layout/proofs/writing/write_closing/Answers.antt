-- `layout::writing::write_closing` meets its contract: the totals are put behind the header (`closing_written`).
-- Assumes nothing.
use Prim.Native.Nat.{◌≤◌}
use native.Mathlib.Omega.{arith}
use lib.ListN.{length}
use Rattle.layout.proofs.Pieces.{closing_written}
use Rattle.layout.proofs.writing.write_closing.Goals as goal

pub returns : goal.returns
returns c =
    let h : 6 ≤ length c.args.out.now = omega (arith, c.requires) in
    rw (
      c.copy.ensures,
      c.ids_place-end.ensures,
      c.totals_place-start.ensures,
      c.write_totals_header.ensures,
    )
    (closing_written c.args.k c.args.t.now c.args.out.now h)
