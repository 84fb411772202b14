-- `snip::judging::interpolated` meets its contract: the numerator of the sum over all points. Assumes nothing.
use mathlib.Core.Path.{◌≡◌, sym, ap, ◌∙◌}
use mathlib.Core.List.{List}
use Prim.Native.Nat.{ℕ, suc, ◌-◌, ◌<◌}
use native.Mathlib.Omega.{arith}
use lib.ListN.{length, get_or}
use Rattle.algebra.specs.Lists.{tabulate}
use Rattle.algebra.specs.Interpolation.{weight, interpolate}
use Rattle.algebra.proofs.Tables.{length_tabulate, get_d_tabulate}
use Rattle.algebra.proofs.Fractions.{numerator_ext}
use Rattle.field.specs.Residues.{prime, residues, Elements}
use Rattle.field.proofs.Below.{member_below, tabulate_below}
use Rattle.interpolation.specs.declared.Fraction.{Fraction}
use Rattle.interpolation.specs.Fractions.{sum_of}
use Rattle.interpolation.proofs.Through.{interpolate_numerator}
use Rattle.quotients.proofs.Numbers.{weight_below}
use Rattle.walk.specs.Walks.{members}
use Rattle.snip.proofs.judging.interpolated.Goals as goal

-- the weights of as many points as there are values
module _ (ys ws : List ℕ) (are : ws ≡ tabulate (weight residues (length ys - 1)) (length ys)) where
  long : length ws ≡ length ys
  long = ap length are ∙ length_tabulate (weight residues (length ys - 1)) (length ys)

  elements : Elements ws
  elements = rw are (tabulate_below (weight residues (length ys - 1)) (length ys) (weight_below (length ys - 1)))

  -- the sum with all weights
  whole : (r : ℕ) (q : Fraction) → 0 < length ys → Elements ys → r < prime → q ≡ sum_of ys ws 0 r (length ys)
      → q.over ≡ interpolate residues (length ys - 1) (members ys) r
  whole r q some values below s =
      let last : length ys ≡ suc (length ys - 1) = omega arith in
      ap (λ (f : Fraction). f.over) s
      ∙ ap (λ k. (sum_of ys ws 0 r k).over) last
      ∙ numerator_ext residues 0 (suc (length ys - 1)) r _ _
      (λ j h. ap (residues.◌⊗◌ (members ys j))
      (ap (λ (t : List ℕ). get_or t j 0) are
      ∙ get_d_tabulate (weight residues (length ys - 1)) (length ys) j 0 (omega arith)))
      ∙ sym (interpolate_numerator (length ys - 1) r below (members ys) (λ j h. member_below ys j values))

pub sum-requires : goal.sum-requires
sum-requires c =
    let f = c.requires.elements in
    let y = c.args.y.now in
    (long y _ c.requires.weights_value, f.0, elements y _ c.requires.weights_value, f.1, omega (arith, f.3))

pub returns : goal.returns
returns c =
    let f = c.requires.elements in
    whole c.args.y.now _ c.requires.weights_value _ _ f.2 f.0 f.1 c.sum.ensures.0
