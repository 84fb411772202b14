-- `walk::product_test` meets its contract: one sum. Assumes nothing.
use mathlib.Core.Path.{ap, ◌∙◌}
use native.Mathlib.Nat.{mod-lt}
use lib.Dec.{lit<}
use lib.ListN.{get_or}
use Rattle.field.specs.Residues.{residues}
use Rattle.field.proofs.Below.{member_below}
use Rattle.walk.proofs.product_test.Goals as goal

pub mul-requires : goal.mul-requires
mul-requires c = (member_below _ _ c.requires.0, lit< tt)

pub add-requires : goal.add-requires
add-requires c =
    (member_below _ _ c.requires.0, rw c.mul.ensures (mod-lt _ (lit< tt)))

pub returns : goal.returns
returns c =
    let a = c.args in
    c.add.ensures ∙ ap (residues.◌⊕◌ (get_or a.x.now a.output 0)) c.mul.ensures
