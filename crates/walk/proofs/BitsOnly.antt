-- Columns and sheets whose multiplications all check bits: their left inputs are the bits, and no right input has anything past
-- the left one and the constant, so that the polynomial of the extras is 0. A column has as many multiplications as bits and
-- products. Assumes nothing.
use mathlib.Core.Path.{◌≡◌, refl, ap, ap₂, ◌∙◌}
use mathlib.Core.List.{List, [], ◌∷◌, ◌++◌, map, append-nil}
use Prim.Native.Nat.{ℕ, zero, suc, ◌+◌, ◌%◌, ◌≤◌}
use native.Mathlib.Nat.{zero-mul}
use native.Mathlib.Omega.{arith}
use lib.ListN.{length}
use Rattle.algebra.specs.Lists.{All, all[], all∷, tabulate}
use Rattle.algebra.specs.Sums.{sum}
use Rattle.algebra.specs.Interpolation.{basis, interpolate}
use Rattle.algebra.proofs.Members.{all_append, all_tabulate}
use Rattle.field.specs.Residues.{prime, residues}
use Rattle.rules.specs.Settings.{document01}
use Rattle.rules.specs.Columns.{Column, entries_of}
use Rattle.rules.specs.Circuit.{Product, bits_of, products_at, gates_of, products_of, gates_in, products_in}
use Rattle.rules.specs.Run.{Meaning}
use Rattle.rules.specs.Walk.{bits_at, column_lefts}
use Rattle.rules.specs.Judging.{zero_then}
use Rattle.rules.specs.Products.{column_extras, walk_extras, extra_at}
use Rattle.rules.proofs.Circuits.Limits.{products_many}
use Rattle.columns.proofs.Sums.{products_count}

empty : (l : List Product) → length l ≡ 0 → l ≡ []
empty [] h = refl
empty (p ∷ l) h = absurd (omega arith)

pub products_few : (cs : List Column) → products_in cs ≤ gates_in cs
unfolding products_in gates_in
products_few [] = omega arith
products_few (c ∷ cs) = omega (arith, products_many c 0, products_count 0 c, products_few cs)

module _ (c : Column) (e : ℕ) (none : products_of c ≡ 0) where
  none_at : products_at e c ≡ []
  none_at = empty (products_at e c) (products_count e c ∙ none)

  pub all_bits : bits_of c ≡ gates_of c
  all_bits = omega (arith, products_many c e, products_count e c)

  -- bits, then nothing
  row : (f : ℕ → ℕ) (g : Product → ℕ) → tabulate f (bits_of c) ++ map g (products_at e c) ≡ tabulate f (gates_of c)
  row f g =
      ap (λ (l : List Product). tabulate f (bits_of c) ++ map g l) none_at
      ∙ append-nil (tabulate f (bits_of c))
      ∙ ap (tabulate f) all_bits

  pub lefts_bits : (μ : Meaning ℕ) → column_lefts document01 μ e c ≡ tabulate (λ i. μ.entry_at (bits_at e c + i)) (gates_of c)
  unfolding column_lefts
  lefts_bits μ = row (λ i. μ.entry_at (bits_at e c + i)) (λ p. μ.entry_at p.left)

  pub extras_bits : (k : ℕ) (x : ℕ → ℕ) → column_extras residues k x e c ≡ tabulate (λ i. 0) (gates_of c)
  unfolding column_extras
  extras_bits k x = row (λ i. 0) _

module _ (k : ℕ) (x : ℕ → ℕ) where
  zeros : (cs : List Column) (e : ℕ) → products_in cs ≡ 0 → All (λ a. a ≡ 0) (walk_extras residues k x e cs)
  unfolding walk_extras products_in
  zeros [] e h = all[]
  zeros (c ∷ cs) e h =
      let none : products_of c ≡ 0 = omega arith in
      let own : All (λ a. a ≡ 0) (column_extras residues k x e c)
      = rw (extras_bits c e none k x) (all_tabulate (λ i. 0) (gates_of c) (λ i l. refl)) in
      all_append own (zeros cs (e + entries_of c) (omega arith))

  member_zero : (l : List ℕ) (j : ℕ) → All (λ a. a ≡ 0) l → zero_then residues 0 l j ≡ 0
  unfolding zero_then
  member_zero l zero h = refl
  member_zero [] (suc j) h = refl
  member_zero (a ∷ l) (suc zero) (all∷ p h) = p
  member_zero (a ∷ l) (suc (suc j)) (all∷ p h) = member_zero l (suc j) h

  through_zeros : (n m : ℕ) (y : ℕ → ℕ) (r : ℕ) → ((j : ℕ) → y j ≡ 0)
      → sum residues n (λ j. residues.◌⊗◌ (y j) (basis residues m j r)) ≡ 0
  unfolding sum
  through_zeros zero m y r h = refl
  through_zeros (suc n) m y r h =
      ap₂ (λ a b. residues.◌⊕◌ a (residues.◌⊗◌ b (basis residues m n r))) (through_zeros n m y r h) (h n)
      ∙ ap (λ t. (0 + t % prime) % prime) (zero-mul (basis residues m n r))

  pub no_extra : (cs : List Column) (r : ℕ) → products_in cs ≡ 0 → extra_at residues k x cs r ≡ 0
  unfolding interpolate
  no_extra cs r h = through_zeros (suc (gates_in cs)) (gates_in cs) _ r (λ j. member_zero _ j (zeros cs 0 h))
