-- `layout::writing::note_decided` meets its contract: counts and id are put where they stand (`noted_written`).
-- Assumes nothing.
use Rattle.rules.specs.Table.{header_length}
use Prim.Native.Nat.{◌≤◌}
use native.Mathlib.Omega.{arith}
use lib.ListN.{length}
use Rattle.layout.proofs.Pieces.{noted_written}
use Rattle.layout.proofs.writing.note_decided.Goals as goal

pub returns : goal.returns
returns c =
    let h : header_length ≤ length c.args.t.now = omega (arith, c.requires) in
    rw (
      c.write_u32.ensures,
      c.ids_place.ensures,
      c.write_u16-2.ensures,
      c.write_u16.ensures,
    )
    (noted_written c.args.k c.args.entered c.args.id c.args.t.now h)
