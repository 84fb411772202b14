-- `seeded::shares::add` meets its contract. The loop's invariant: the first e members are added to. Assumes nothing.
use mathlib.Core.Path.{ap, ◌∙◌}
use Prim.Native.Nat.{ℕ}
use lib.ListN.{get_or}
use Rattle.field.specs.Residues.{residues}
use Rattle.field.proofs.Below.{member_below}
use Rattle.whole.proofs.Changing.{none_changed, unchanged, one_changed, all_changed}
use Rattle.seeded.specs.Pieces.{added}
use Rattle.seeded.proofs.shares.add.Goals as goal

pub loop-e-init : goal.loop-e-init
loop-e-init c = none_changed _ _

pub add-requires : goal.add-requires
add-requires c =
    let l = c.loop-e in
    (rw (unchanged _ l.invariant) (member_below c.args.sum.now l.e c.requires.0), member_below c.args.x.now l.e c.requires.1)

pub loop-e-preserved : goal.loop-e-preserved
loop-e-preserved c =
    let l = c.loop-e in
    one_changed _ l.invariant _ c.loop-e-test.true
    (c.add.ensures ∙ ap (λ (y : ℕ). residues.◌⊕◌ y (get_or c.args.x.now l.e 0)) (unchanged _ l.invariant))

pub returns : goal.returns
unfolding added
returns c = all_changed _ c.loop-e.invariant c.loop-e-test.false
