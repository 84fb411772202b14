-- `snip::judging::lefts_sum` meets its contract: the sum over the left inputs that the walk gives. Assumes nothing.
use mathlib.Core.Path.{sym, ap₂, ◌∙◌}
use mathlib.Core.List.{List}
use Prim.Native.Nat.{ℕ}
use native.Mathlib.Omega.{arith}
use lib.Seq.{length-take-le}
use Rattle.interpolation.specs.Fractions.{sum_of}
use Rattle.rules.specs.Columns.{columns_of}
use Rattle.walk.proofs.InputElements.{lefts_elements}
use Rattle.snip.proofs.judging.lefts_sum.Goals as goal

pub slice_bounds-lefts-end : goal.slice_bounds-lefts-end
slice_bounds-lefts-end c = sym (length-take-le _ _ c.requires.4)

pub fill_lefts-products-requires : goal.fill_lefts-products-requires
fill_lefts-products-requires c = (c.requires.0, length-take-le _ _ c.requires.4 ∙ c.requires.3)

pub sum-sum-requires : goal.sum-sum-requires
sum-sum-requires c =
    let w = c.fill_lefts-products in
    let l = w.auto.out ∙ length-take-le _ _ c.requires.4 in
    let elements = lefts_elements c.args.x.now c.requires.0.elements (columns_of c.args.sheet.now) 0 in
    (sym l, rw w.ensures.0 elements, c.requires.1, c.requires.2, omega (arith, l, c.requires.4))

pub returns : goal.returns
returns c =
    let w = c.fill_lefts-products in
    let l = w.auto.out ∙ length-take-le _ _ c.requires.4 in (
      c.sum-sum.ensures.0 ∙ ap₂ (λ (ls : List ℕ) (n : ℕ). sum_of ls c.args.weights.now 1 c.args.r n) w.ensures.0 (l ∙ c.requires.3),
      c.sum-sum.ensures.1,
      w.ensures.1,
    )
