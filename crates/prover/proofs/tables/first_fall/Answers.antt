-- `prover::tables::first_fall` meets its contract: the last of a table of products. Assumes nothing.
use mathlib.Core.Path.{sym, ap, ◌∙◌}
use mathlib.Core.List.{List, [], append-nil}
use Prim.Native.Nat.{ℕ, ◌+◌, ◌≤◌}
use native.Mathlib.Omega.{arith}
use lib.ListN.{get_or}
use lib.Seq.{length-take-le}
use Rattle.prover.proofs.Falls.{fall_first}
use Rattle.prover.proofs.tables.first_fall.Goals as goal

pub returns : goal.returns
returns c =
    let few : c.args.n + 2 ≤ 258 = omega (arith, c.requires) in
    ap (λ (l : List ℕ). get_or l (c.args.n + 1) 0) (sym (append-nil _))
    ∙ fall_first _ [] c.args.n _ c.ascending.ensures (length-take-le _ _ few)
