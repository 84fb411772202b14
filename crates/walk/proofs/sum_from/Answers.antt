-- `walk::sum_from` meets its contract: after some turns acc is the sum of as many members. Assumes nothing.
use mathlib.Core.Path.{◌≡◌, ap, ◌∙◌}
use Prim.Native.Nat.{ℕ, ◌+◌}
use native.Mathlib.Omega.{arith}
use Rattle.field.specs.Residues.{residues}
use Rattle.field.proofs.Below.{member_below}
use Rattle.rules.specs.Settings.{document01}
use Rattle.rules.specs.Walk.{sum_from}
use Rattle.walk.specs.Walks.{plain, members}
use Rattle.walk.proofs.Filling.{add_start, add_turn}
use Rattle.walk.proofs.Parts.{part_long, part_at}
use Rattle.walk.proofs.sum_from.Goals as goal

pub loop-v-init : goal.loop-v-init
loop-v-init c = add_start _ _ _ c.requires.2

pub add-acc-requires : goal.add-acc-requires
add-acc-requires c =
    let a = c.args in
    let i = c.loop-v.v-index in
    (c.loop-v.invariant.element, rw (part_at a.x.now a.first a.n c.requires.0 i c.loop-v-test.true) (member_below a.x.now (a.first + i) c.requires.1))

pub loop-v-preserved : goal.loop-v-preserved
loop-v-preserved c =
    let a = c.args in
    let l = c.loop-v in
    add_turn _ _ _ c.add-acc.result l.invariant
    (c.add-acc.ensures ∙ ap (λ (v : ℕ). residues.◌⊕◌ l.acc v) (part_at a.x.now a.first a.n c.requires.0 l.v-index c.loop-v-test.true))

pub returns : goal.returns
returns c =
    let a = c.args in
    let l = c.loop-v in
    let e : l.v-index ≡ a.n = omega (arith, part_long a.x.now a.first a.n c.requires.0) in
    l.invariant.is ∙ ap (sum_from document01 (plain 0 (members a.x.now)) a.start (λ i. members a.x.now (a.first + i))) e
