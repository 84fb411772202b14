-- `prover::correcting::fill_corrected` meets its contract: its loop fills the buffer by the rule of its products, each from the value that
-- stands there (`unfilled`). Assumes nothing.
use mathlib.Core.Path.{ap, ap₂, ◌∙◌}
use native.Mathlib.Nat.{mod-lt}
use native.Mathlib.Omega.{arith}
use lib.Dec.{lit<}
use Rattle.field.specs.Residues.{residues}
use Rattle.field.proofs.Below.{member_below}
use Rattle.walk.specs.Walks.{members}
use Rattle.walk.proofs.Filling.{start, turn}
use Rattle.prover.proofs.InPlace.{unfilled}
use Rattle.prover.proofs.Shifts.{shift_below}
use Rattle.prover.proofs.correcting.fill_corrected.Goals as goal

pub loop-j-init : goal.loop-j-init
loop-j-init c = start _ _

pub add-shifted-requires : goal.add-shifted-requires
add-shifted-requires c =
    let l = c.loop-j in
    (rw (unfilled _ l.invariant) (member_below _ _ c.requires.elements.0), rw c.shift.ensures (shift_below _ _ _))

pub add-requires : goal.add-requires
add-requires c =
    (rw c.add-shifted.ensures (mod-lt _ (lit< tt)), member_below _ _ c.requires.elements.1)

pub mul-requires : goal.mul-requires
mul-requires c =
    let l = c.loop-j in
    (rw (unfilled _ l.invariant) (member_below _ _ c.requires.elements.0), rw c.add.ensures (mod-lt _ (lit< tt)))

pub loop-j-preserved : goal.loop-j-preserved
loop-j-preserved c =
    let l = c.loop-j in
    let y = unfilled _ l.invariant in
    turn _ c.mul.result l.invariant (omega (arith, l.invariant.same))
    (c.mul.ensures
    ∙ ap₂ residues.◌⊗◌ y
    (c.add.ensures
    ∙ ap (λ t. residues.◌⊕◌ t (members c.args.e.now l.j)) (c.add-shifted.ensures ∙ ap₂ residues.◌⊕◌ y c.shift.ensures)))
