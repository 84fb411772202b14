-- `walk::weighted_from` meets its contract: after some turns acc is the sum of as many, and power is 2 to their number.
-- Assumes nothing.
use mathlib.Core.Path.{◌≡◌, refl, ap, ap₂, ◌∙◌}
use Prim.Native.Nat.{◌+◌, ◌^◌, ◌<◌}
use native.Mathlib.Omega.{arith}
use lib.Dec.{lit<}
use Rattle.field.specs.Residues.{prime, residues}
use Rattle.field.proofs.Below.{member_below}
use Rattle.rules.specs.Settings.{document01}
use Rattle.rules.specs.Walk.{sum_from}
use Rattle.walk.specs.Walks.{plain, members}
use Rattle.walk.proofs.Filling.{add_start, add_turn, doubled, swapped}
use Rattle.walk.proofs.Parts.{part_long, part_at}
use Rattle.walk.proofs.weighted_from.Goals as goal

pub loop-v-init : goal.loop-v-init
loop-v-init c = (lit< tt, refl, add_start _ _ _ c.requires.2)

pub mul_add-acc-requires : goal.mul_add-acc-requires
mul_add-acc-requires c =
    let a = c.args in
    let l = c.loop-v in
    let at = part_at a.x.now a.first a.n c.requires.0 l.v-index c.loop-v-test.true in
    (rw at (member_below a.x.now (a.first + l.v-index) c.requires.1), l.invariant.0, l.invariant.2.element)

pub loop-v-preserved : goal.loop-v-preserved
loop-v-preserved c =
    let a = c.args in
    let l = c.loop-v in
    let twice : c.add-power.result < prime = omega (arith, c.add-power.ensures) in
    let at = part_at a.x.now a.first a.n c.requires.0 l.v-index c.loop-v-test.true in
    let sum : c.mul_add-acc.result
    ≡ residues.◌⊕◌ l.acc (residues.◌⊗◌ (members a.x.now (a.first + l.v-index)) (residues.ι (2 ^ l.v-index))) =
    c.mul_add-acc.ensures
    ∙ swapped _ l.acc
    ∙ ap (residues.◌⊕◌ l.acc) (ap₂ residues.◌⊗◌ at l.invariant.1) in (
      twice,
      doubled l.v-index l.power c.add-power.result l.invariant.1 c.add-power.ensures,
      add_turn _ _ _ c.mul_add-acc.result l.invariant.2 sum,
    )

pub returns : goal.returns
returns c =
    let a = c.args in
    let l = c.loop-v in
    let e : l.v-index ≡ a.n = omega (arith, part_long a.x.now a.first a.n c.requires.0) in
    l.invariant.2.is
    ∙ ap
    (sum_from document01 (plain 0 (members a.x.now)) a.start
    (λ i. residues.◌⊗◌ (members a.x.now (a.first + i)) (residues.ι (2 ^ i)))) e
