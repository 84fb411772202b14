-- `prover::tables::fill_falls` meets its contract: a turn stores one product and works out the next. Assumes nothing.
use Prim.Native.Nat.{suc, ◌+◌, ◌<◌}
use native.Mathlib.Nat.{mod-lt}
use native.Mathlib.Omega.{arith}
use lib.Dec.{lit<}
use lib.ListN.{length}
use Rattle.field.specs.Residues.{prime}
use Rattle.prover.proofs.Backwards.{inverse_low}
use Rattle.prover.proofs.Falls.{fall_below, start, turn}
use Rattle.prover.proofs.tables.fill_falls.Goals as goal

pub loop-i-init : goal.loop-i-init
loop-i-init c = start _ _ _ c.first_fall-acc.ensures

pub mul-requires : goal.mul-requires
mul-requires c =
    let l = c.loop-i in
    (omega (arith, c.requires.0, l.invariant.same), inverse_low c.args.inverses.now _ _ c.requires.2)

pub mul-acc-requires : goal.mul-acc-requires
mul-acc-requires c =
    (fall_below _ c.loop-i.invariant, rw c.mul.ensures (mod-lt _ (lit< tt)))

pub loop-i-preserved : goal.loop-i-preserved
loop-i-preserved c =
    let l = c.loop-i in
    let h : l.i < length c.args.out.now = omega (arith, l.invariant.same) in
    let small : suc (suc (length c.args.out.now) + l.i) < prime = omega (arith, c.requires.0) in
    turn _ c.args.inverses.now _ _ l.invariant h small (omega (arith, c.requires.1))
    c.requires.2 c.mul.ensures c.mul-acc.ensures
