-- `Grid::move_all`: one more tile is moved (`next_tile`). Assumes nothing.
use Rattle.std.proofs.Common.{◌≡◌, ◌+◌, min, arith}
use native.Mathlib.Nat.{le_refl}
use Rattle.shelf.proofs.Moving.{next_tile}
use Rattle.shelf.proofs.Grid.move_all.Goals as goal

pub loop-from-preserved : goal.loop-from-preserved
loop-from-preserved c =
    let g = c.args.self in
    let from = c.loop-from.from in
    let here : min from g.width ≡ from = omega arith in
    let next : min (from + 64) g.width ≡ from + c.min.result = omega arith in
    rw next
    (next_tile g c.args.run.now c.args.out.now c.loop-from.out _ g.messages from _ (le_refl g.messages) (omega arith)
    (rw here at c.loop-from.invariant) c.move_tile.ensures)
