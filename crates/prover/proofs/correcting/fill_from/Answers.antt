-- `prover::correcting::fill_from` meets its contract: f at each point, then its products with g; without products of columns the extras
-- add nothing, else they are worked out and added. Assumes nothing.
use mathlib.Core.Path.{◌≡◌, sym, ap, ◌∙◌, subst}
use mathlib.Core.List.{List, ◌∷◌}
use Prim.Native.Nat.{ℕ, suc, ◌+◌, ◌-◌, ◌≤◌}
use native.Mathlib.Omega.{arith}
use lib.ListN.{length}
use lib.Seq.{length-take-le}
use Rattle.algebra.specs.Lists.{tabulate}
use Rattle.field.specs.Residues.{prime, residues, Elements}
use Rattle.field.proofs.Below.{tabulate_below}
use Rattle.interpolation.proofs.Through.{interpolate_below}
use Rattle.rules.specs.Columns.{columns_of}
use Rattle.rules.specs.Products.{walk_extras}
use Rattle.walk.specs.Walks.{members}
use Rattle.prover.specs.Curves.{value_at, product_of, corrected_of}
use Rattle.prover.proofs.InPlace.{told_all, told_both}
use Rattle.prover.proofs.Inputs.{same_products}
use Rattle.prover.proofs.correcting.fill_from.Goals as goal

-- values of a polynomial are elements
values_elements : (n : ℕ) (ys : List ℕ) (m : ℕ) {l : List ℕ} → l ≡ tabulate (value_at n ys) m → Elements l
values_elements n ys m e = subst Elements (sym e) (tabulate_below (value_at n ys) m (λ i. interpolate_below _ _ _))

few : {n m : ℕ} → n ≤ 256 → m ≤ suc (n + n) → m ≤ 513
few h k = omega arith

abbrev extras : List ℕ → List ℕ → List ℕ
extras sheet xs = 0 ∷ walk_extras residues (prime - 1) (members xs) 0 (columns_of sheet)

pub fill_products-requires : goal.fill_products-requires
fill_products-requires c =
    (c.requires.entries.2, values_elements _ _ _ c.fill_values.ensures, omega (arith, c.fill_values.auto.out, c.requires.curve.1))

pub returns-then-products-eq0 : goal.returns-then-products-eq0
returns-then-products-eq0 c =
    let n = length c.args.tables.falls.now in
    c.fill_products.ensures
    ∙ told_all (λ y j. product_of n y c.args.d j) (value_at n c.args.f.now) (length c.args.out.now)
    c.fill_values.ensures
    ∙ same_products c.args.x.now (columns_of c.args.sheet.now) _ _ c.args.d c.args.f.now c.requires.entries.3
    (sym c.requires.entries.1 ∙ c.if-products-eq0.true)

pub fill_corrected-requires : goal.fill_corrected-requires
fill_corrected-requires c = record {
  d_lt_prime = c.requires.entries.2;
  elements = (
    values_elements _ _ _ c.fill_values.ensures,
    values_elements _ (extras c.args.sheet.now c.args.x.now) _ c.extra_values.ensures,
    c.extra_values.auto.out ∙ length-take-le _ _ (omega (arith, c.fill_values.auto.out, few c.args.tables.ready.few c.requires.curve.1)),
    omega (arith, c.fill_values.auto.out, c.requires.curve.1),
  );
}

pub returns : goal.returns
returns c =
    let n = length c.args.tables.falls.now in
    let e = extras c.args.sheet.now c.args.x.now in
    let room : length c.fill_values.new.out ≤ 513 =
    omega (arith, few c.args.tables.ready.few c.requires.curve.1, c.fill_values.auto.out) in
    c.fill_corrected.ensures
    ∙ told_both (λ y e j. corrected_of n y e c.args.d j) (value_at n c.args.f.now) (value_at n e) (length c.args.out.now)
    c.fill_values.ensures
    (c.extra_values.ensures ∙ ap (tabulate (value_at n e)) (length-take-le _ _ room ∙ c.fill_values.auto.out))
