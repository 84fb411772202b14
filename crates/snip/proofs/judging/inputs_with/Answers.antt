-- `snip::judging::inputs_with` meets its contract: the weights behind the first are those of the points 1, 2, .., and g is f,
-- corrected. Assumes nothing.
use mathlib.Core.Path.{◌≡◌, ap, ◌∙◌}
use mathlib.Core.List.{List}
use Prim.Native.Nat.{ℕ, suc, ◌+◌, ◌-◌, ◌<◌}
use native.Mathlib.Nat.{mod-lt}
use native.Mathlib.Omega.{arith}
use lib.Dec.{lit<}
use lib.ListN.{length, get_or, take, drop}
use lib.Seq.{take-length}
use Rattle.algebra.specs.Lists.{tabulate}
use Rattle.algebra.specs.Interpolation.{weight}
use Rattle.algebra.proofs.Tables.{length_tabulate, get_d_tabulate, tabulate_front}
use Rattle.field.specs.Residues.{residues, Elements}
use Rattle.field.proofs.Below.{member_below, tabulate_below}
use Rattle.interpolation.specs.declared.Fraction.{Fraction}
use Rattle.interpolation.proofs.Through.{interpolate_below}
use Rattle.quotients.proofs.Numbers.{weight_below}
use Rattle.rules.specs.Columns.{columns_of}
use Rattle.rules.specs.Circuit.{gates_in}
use Rattle.rules.specs.Settings.{document01}
use Rattle.rules.specs.Walk.{walk_lefts}
use Rattle.rules.specs.Products.{extra_at}
use Rattle.walk.specs.Walks.{plain, members}
use Rattle.walk.proofs.InputElements.{lefts_elements}
use Rattle.snip.specs.Judged.{inputs_from}
use Rattle.snip.proofs.Curves.{inputs_are}
use Rattle.snip.proofs.judging.inputs_with.Goals as goal

-- the weights of the points 0, .., m
module _ (ws : List ℕ) (m : ℕ) (are : ws ≡ tabulate (weight residues m) (suc m)) where
  abbrev others : List ℕ
  others = take (length ws - 1) (drop 1 ws)

  long : length ws ≡ suc m
  long = ap length are ∙ length_tabulate (weight residues m) (suc m)

  first_is : get_or ws 0 0 ≡ weight residues m 0
  first_is = ap (λ (l : List ℕ). get_or l 0 0) are ∙ get_d_tabulate (weight residues m) (suc m) 0 0 (omega arith)

  behind : others ≡ tabulate (λ i. weight residues m (suc i)) m
  behind =
      ap (λ (l : List ℕ). take (length l - 1) (drop 1 l)) (are ∙ tabulate_front (weight residues m) m)
      ∙ ap (λ k. take k (tabulate (λ i. weight residues m (suc i)) m)) whole
      ∙ take-length (tabulate (λ i. weight residues m (suc i)) m)
    where
      whole : suc (length (tabulate (λ i. weight residues m (suc i)) m)) - 1
          ≡ length (tabulate (λ i. weight residues m (suc i)) m)
      whole = omega arith

  others_long : length others ≡ m
  others_long = ap length behind ∙ length_tabulate (λ i. weight residues m (suc i)) m

  others_elements : Elements others
  others_elements = rw behind (tabulate_below (λ i. weight residues m (suc i)) m (λ i. weight_below m (suc i)))

  other_is : (i : ℕ) → i < m → get_or others i 0 ≡ weight residues m (suc i)
  other_is i h =
      ap (λ (l : List ℕ). get_or l i 0) behind ∙ get_d_tabulate (λ i. weight residues m (suc i)) m i 0 h

pub slice_bounds-others-count : goal.slice_bounds-others-count
slice_bounds-others-count c =
    omega (arith, long _ _ c.requires.weights_value)

pub slice_bounds-others-start : goal.slice_bounds-others-start
slice_bounds-others-start c =
    omega (arith, long _ _ c.requires.weights_value)

pub lefts_sum-lefts-requires : goal.lefts_sum-lefts-requires
lefts_sum-lefts-requires c =
    let l = others_long _ _ c.requires.weights_value in
    (c.requires.entries.0, others_elements _ _ c.requires.weights_value, c.requires.entries.4, l, omega (arith, l, c.requires.entries.2))

pub extra_at-extra-requires : goal.extra_at-extra-requires
extra_at-extra-requires c =
    record { entries = (c.requires.entries.0, c.requires.entries.3, c.requires.entries.4, c.requires.entries.2, c.lefts_sum-lefts.ensures.2); weights_value = behind _ _ c.requires.weights_value }

pub bounds-weights-0 : goal.bounds-weights-0
bounds-weights-0 c =
    omega (arith, long _ _ c.requires.weights_value)

pub mul-first-requires : goal.mul-first-requires
mul-first-requires c =
    (rw (first_is _ _ c.requires.weights_value) (weight_below _ 0), c.lefts_sum-lefts.ensures.1.under_below)

pub mul-requires : goal.mul-requires
mul-requires c =
    (c.requires.entries.4, c.lefts_sum-lefts.ensures.1.over_below)

pub inputs_from-requires : goal.inputs_from-requires
inputs_from-requires c =
    let elements = c.requires.entries.0.elements in (
      member_below _ _ elements,
      member_below _ _ elements,
      rw c.mul-first.ensures (mod-lt _ (lit< tt)),
      rw c.mul.ensures (mod-lt _ (lit< tt)),
      c.requires.entries.3,
      rw c.extra_at-extra.ensures (interpolate_below _ _ _),
    )

pub returns : goal.returns
returns c =
    let v = c.args in
    let x = members v.x.now in
    let cs = columns_of v.sheet.now in
    let elements = c.requires.entries.0.elements in
    let q = c.lefts_sum-lefts.ensures.0 in
    let w = get_or v.weights.now 0 0 in
    let first = c.mul-first.ensures ∙ ap (λ (f : Fraction). residues.◌⊗◌ w f.under) q in
    let rest = c.mul.ensures ∙ ap (λ (f : Fraction). residues.◌⊗◌ v.r f.over) q in
    c.inputs_from.ensures
    ∙ (λ i. inputs_from (x v.l) (x (v.l + 1)) (first i) (rest i) v.constant (c.extra_at-extra.ensures i))
    ∙ inputs_are (gates_in cs) v.r w (others v.weights.now _ c.requires.weights_value) c.requires.entries.4 (first_is _ _ c.requires.weights_value)
    (other_is _ _ c.requires.weights_value) _ _ v.constant (extra_at residues v.constant x cs v.r) (walk_lefts document01 (plain 0 x) 0 cs)
    (member_below _ _ elements) (member_below _ _ elements) c.requires.entries.3 (interpolate_below _ _ _)
    (lefts_elements v.x.now elements cs 0)
