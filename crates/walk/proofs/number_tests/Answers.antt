-- `walk::number_tests` meets its contract: the outputs, and then the test of the sum. Assumes nothing.
use mathlib.Core.Path.{ap, ◌∙◌}
use mathlib.Core.List.{[], ◌∷◌, ◌++◌}
use Prim.Native.Nat.{ℕ, ◌+◌, ◌^◌}
use native.Mathlib.Nat.{mod-lt}
use lib.Dec.{lit<}
use Rattle.algebra.specs.Lists.{tabulate}
use Rattle.field.specs.Residues.{residues}
use Rattle.field.proofs.Below.{member_below}
use Rattle.rules.specs.Settings.{document01}
use Rattle.rules.specs.Walk.{sum_from, weighted, number_test}
use Rattle.walk.specs.Walks.{plain, members}
use Rattle.walk.proofs.number_tests.Goals as goal

pub mul-requires : goal.mul-requires
mul-requires c = (member_below _ _ c.requires.0, lit< tt)

pub weighted_from-sum-requires : goal.weighted_from-sum-requires
weighted_from-sum-requires c =
    (c.requires.3, c.requires.0, rw c.mul.ensures (mod-lt _ (lit< tt)))

pub returns : goal.returns
unfolding number_test weighted
returns c =
    let a = c.args in
    let x = members a.x.now in
    c.copy_then.ensures
    ∙ ap (λ (v : ℕ). tabulate (λ i. x (a.first + i)) a.n ++ (v ∷ []))
    (c.weighted_from-sum.ensures
    ∙ ap (λ (v : ℕ). sum_from document01 (plain 0 x) v (λ i. residues.◌⊗◌ (x (a.e + i)) (residues.ι (2 ^ i))) a.n)
    c.mul.ensures)
