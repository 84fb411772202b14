-- `snip::judging::extra_at` meets its contract: without products the polynomial of the extras is 0, else it is r times the sum of
-- fractions over the points but 0. Assumes nothing.
use mathlib.Core.Path.{◌≡◌, refl, sym, ap, ap₂, ◌∙◌}
use mathlib.Core.List.{List}
use Prim.Native.Nat.{ℕ, suc, ◌≤◌, ◌<◌}
use native.Mathlib.Omega.{arith}
use lib.ListN.{length, get_or}
use lib.Seq.{length-take-le}
use Rattle.algebra.specs.Lists.{tabulate}
use Rattle.algebra.specs.Interpolation.{weight}
use Rattle.algebra.proofs.Tables.{length_tabulate, get_d_tabulate}
use Rattle.field.specs.Residues.{residues, Elements}
use Rattle.field.proofs.Below.{tabulate_below}
use Rattle.quotients.proofs.Numbers.{weight_below}
use Rattle.interpolation.specs.declared.Fraction.{Fraction}
use Rattle.interpolation.specs.Fractions.{sum_of}
use Rattle.rules.specs.Columns.{columns_of}
use Rattle.rules.specs.Circuit.{gates_in}
use Rattle.rules.specs.Products.{walk_extras}
use Rattle.walk.specs.Walks.{members}
use Rattle.walk.proofs.BitsOnly.{no_extra}
use Rattle.walk.proofs.InputElements.{extras_elements}
use Rattle.snip.proofs.Curves.{rest_at}
use Rattle.snip.proofs.judging.extra_at.Goals as goal

-- the weights of the points 1, 2, ..
module _ (ws : List ℕ) (m : ℕ) (are : ws ≡ tabulate (λ i. weight residues m (suc i)) m) where
  many : length ws ≡ m
  many = ap length are ∙ length_tabulate (λ i. weight residues m (suc i)) m

  few : m ≤ 256 → length ws ≤ 256
  few h = omega (arith, many)

  weights_elements : Elements ws
  weights_elements = rw are (tabulate_below (λ i. weight residues m (suc i)) m (λ i. weight_below m (suc i)))

  weight_is : (i : ℕ) → i < m → get_or ws i 0 ≡ weight residues m (suc i)
  weight_is i h = ap (λ (l : List ℕ). get_or l i 0) are ∙ get_d_tabulate (λ i. weight residues m (suc i)) m i 0 h

pub returns-then-products-eq0 : goal.returns-then-products-eq0
returns-then-products-eq0 c =
    sym
    (no_extra c.args.constant (members c.args.x.now) (columns_of c.args.sheet.now) c.args.r
    (sym c.requires.entries.4 ∙ c.if-products-eq0.true))

pub slice_bounds-buffer-end : goal.slice_bounds-buffer-end
slice_bounds-buffer-end c = few _ _ c.requires.weights_value c.requires.entries.3

pub slice_bounds-extras-end : goal.slice_bounds-extras-end
slice_bounds-extras-end c = sym (length-take-le _ _ (few _ _ c.requires.weights_value c.requires.entries.3))

pub fill_extras-requires : goal.fill_extras-requires
fill_extras-requires c =
    let p = c.requires in
    (p.entries.0, length-take-le _ _ (few _ _ p.weights_value p.entries.3) ∙ many _ _ p.weights_value, p.entries.1)

pub sum-requires : goal.sum-requires
sum-requires c =
    let p = c.requires in
    let w = c.fill_extras in
    let l = w.auto.out ∙ length-take-le _ _ (few _ _ p.weights_value p.entries.3) in
    let elements = extras_elements c.args.constant (members c.args.x.now) (columns_of c.args.sheet.now) 0 in (
      sym l,
      rw w.ensures elements,
      weights_elements _ _ p.weights_value,
      p.entries.2,
      omega (arith, l, few _ _ p.weights_value p.entries.3),
    )

pub mul-requires : goal.mul-requires
mul-requires c = (c.requires.entries.2, c.sum.ensures.1.over_below)

pub returns : goal.returns
returns c =
    let p = c.requires in
    let w = c.fill_extras in
    let l = w.auto.out ∙ length-take-le _ _ (few _ _ p.weights_value p.entries.3) in
    let cs = columns_of c.args.sheet.now in
    let ks = walk_extras residues c.args.constant (members c.args.x.now) 0 cs in
    let fraction : c.sum.result ≡ sum_of ks c.args.weights.now 1 c.args.r (gates_in cs)
    = c.sum.ensures.0
    ∙ ap₂ (λ (ks : List ℕ) (n : ℕ). sum_of ks c.args.weights.now 1 c.args.r n) w.ensures (l ∙ many _ _ p.weights_value) in
    c.mul.ensures
    ∙ ap (λ (q : Fraction). residues.◌⊗◌ c.args.r q.over) fraction
    ∙ rest_at (gates_in cs) c.args.r _ c.args.weights.now p.entries.2 refl (weight_is _ _ p.weights_value) _
    (extras_elements c.args.constant (members c.args.x.now) cs 0)
