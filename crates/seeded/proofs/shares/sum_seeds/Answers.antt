-- `seeded::shares::sum_seeds` meets its contract. The loop's invariant: the sums of the first i seeds (`sums_next`). Assumes nothing.
use mathlib.Core.Path.{◌≡◌, ap, ◌∙◌}
use Prim.Native.Nat.{◌*◌}
use native.Mathlib.Omega.{arith}
use lib.ListN.{length}
use Rattle.steps.proofs.Parts.{span}
use Rattle.seeded.specs.Pieces.{seed_sums}
use Rattle.seeded.proofs.Sums.{sums_none, sums_next, sums_elements, seed_within, seed_whole}
use Rattle.seeded.proofs.shares.sum_seeds.Goals as goal

pub loop-i-init : goal.loop-i-init
loop-i-init c = c.requires.2 ∙ sums_none c.args.seeds.now c.args.id (length c.args.sum.now)

pub slice_bounds-add_seed-end : goal.slice_bounds-add_seed-end
slice_bounds-add_seed-end c = seed_within c.requires.0 c.loop-i.i c.loop-i-test.true

pub add_seed-requires : goal.add_seed-requires
add_seed-requires c =
    let l = c.loop-i in
    (seed_whole c.requires.0 l.i c.loop-i-test.true, rw l.invariant (sums_elements _ _ _ _), rw l.auto.sum c.requires.1)

pub loop-i-preserved : goal.loop-i-preserved
loop-i-preserved c =
    let a = c.args in
    let l = c.loop-i in
    c.add_seed.ensures
    ∙ rw (span (32 * l.i) 32 a.seeds.now, l.auto.sum, l.invariant) (sums_next a.seeds.now a.id (length a.sum.now) l.i)

pub returns : goal.returns
returns c =
    let a = c.args in
    let l = c.loop-i in
    let e : l.i ≡ a.others = omega arith in
    l.invariant ∙ ap (seed_sums a.seeds.now a.id (length a.sum.now)) e
