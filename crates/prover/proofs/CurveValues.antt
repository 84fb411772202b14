-- The values of a polynomial given by its values at 0, .., n: at a point the given one, beyond them the one that follows
-- from the scaled values. Assumes nothing.
use mathlib.Core.Path.{◌≡◌, sym, ap, ap₂, ◌∙◌}
use mathlib.Core.List.{List}
use Prim.Native.Nat.{ℕ, suc, ◌+◌, ◌-◌, ◌<◌, ◌≤◌}
use native.Mathlib.Nat.{mod-lt}
use native.Mathlib.Omega.{arith}
use lib.Dec.{lit<}
use lib.ListN.{length}
use Rattle.algebra.specs.Lists.{tabulate}
use Rattle.algebra.proofs.Tables.{length_tabulate, get_d_tabulate}
use Rattle.algebra.proofs.Sums.{sum_ext}
use Rattle.field.specs.Residues.{residues, Elements}
use Rattle.field.proofs.Below.{member_below, tabulate_below}
use Rattle.walk.specs.Walks.{members}
use Rattle.prover.specs.Curves.{fall_at, scaled_at, beyond_at, value_at, Curve}
use Rattle.prover.proofs.Extrapolation.{value_at_point, value_beyond}

module _ {n : ℕ} {ys scaled : List ℕ} (v : Curve n ys scaled) (few : n ≤ 256) where
  pub scaled_long : length scaled ≡ suc n
  scaled_long = ap length v.scaled_are ∙ length_tabulate _ (suc n)

  pub scaled_elements : Elements scaled
  scaled_elements = rw v.scaled_are (tabulate_below (scaled_at n ys) (suc n) (λ j. mod-lt _ (lit< tt)))

  pub value_given : (j : ℕ) → j < length ys → members ys j ≡ value_at n ys j
  value_given j h =
      sym (value_at_point n (members ys) (λ i. member_below ys i v.elements) j (omega (arith, v.size)) (omega arith))

  pub value_follows : (j : ℕ) → length ys ≤ j → j < suc (n + n) → beyond_at n scaled (j - length ys) ≡ value_at n ys j
  value_follows j h k =
      let i = j - length ys in
      let t : suc n + (j - length ys) ≡ j = omega (arith, v.size) in
      ap (λ a. residues.◌⊗◌ a (fall_at n i))
      (sum_ext residues (suc n) _ _
      (λ m l. ap (λ a. residues.◌⊗◌ a (residues.inv (suc n + i - m)))
      (ap (λ (l : List ℕ). members l m) v.scaled_are ∙ get_d_tabulate (scaled_at n ys) (suc n) m 0 l)))
      ∙ sym
      (value_beyond n (members ys) (λ i. member_below ys i v.elements) (suc n + (j - length ys))
      (omega arith) (omega (arith, v.size)))
      ∙ ap (value_at n ys) t

-- the scaled values of as many points as there are values
pub scaled_from : (ys : List ℕ) (k n : ℕ) → k ≡ suc n → tabulate (scaled_at (k - 1) ys) k ≡ tabulate (scaled_at n ys) (suc n)
scaled_from ys k n e =
    let t : k - 1 ≡ n = omega arith in
    ap₂ (λ a b. tabulate (scaled_at a ys) b) t e
