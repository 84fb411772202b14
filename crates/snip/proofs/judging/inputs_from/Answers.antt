-- `snip::judging::inputs_from` meets its contract: the two sums. Assumes nothing.
use mathlib.Core.Path.{ap, ap₂, ◌∙◌}
use native.Mathlib.Nat.{mod-lt}
use lib.Dec.{lit<}
use Rattle.field.specs.Residues.{residues}
use Rattle.snip.proofs.Curves.{inputs}
use Rattle.snip.proofs.judging.inputs_from.Goals as goal

pub mul_add-shifted-requires : goal.mul_add-shifted-requires
mul_add-shifted-requires c =
    (c.requires.2, rw c.sub.ensures (mod-lt _ (lit< tt)), rw c.add.ensures (mod-lt _ (lit< tt)))

pub add-requires-2 : goal.add-requires-2
add-requires-2 c =
    (rw c.mul_add-shifted.ensures (mod-lt _ (lit< tt)), c.requires.5)

pub returns : goal.returns
returns c =
    let a = c.args in
    inputs c.mul_add.ensures
    (c.add-2.ensures
    ∙ ap (λ g. residues.◌⊕◌ g a.extra)
    (c.mul_add-shifted.ensures
    ∙ ap₂ (λ d e. residues.◌⊕◌ (residues.◌⊗◌ a.first d) e) c.sub.ensures
    c.add.ensures))
