-- The polynomial that is d at 0 and the prime less 1 at 1, .., n: its value at a point is that number, and beyond them it
-- follows from the tables. Assumes nothing.
use mathlib.Core.Path.{◌≡◌, sym, ap, ap₂, ◌∙◌}
use mathlib.Core.List.{List}
use Prim.Native.Nat.{ℕ, suc, ◌+◌, ◌-◌, ◌<◌, ◌≤◌}
use native.Mathlib.Nat.{mod-lt, mod-eq_of_lt}
use native.Mathlib.Omega.{arith}
use lib.Dec.{lit<}
use lib.ListN.{length}
use Rattle.algebra.specs.Interpolation.{ascending}
use Rattle.algebra.proofs.Trial.{prime_2147483647}
use Rattle.algebra.proofs.Shifts.{shift, number_first, number_other, number_beyond}
use Rattle.field.specs.Residues.{prime, residues}
use Rattle.walk.specs.Walks.{members}
use Rattle.prover.specs.Curves.{scaled_shift, shift_at, Ready}
use Rattle.prover.proofs.Backwards.{fall_at_lem, inverse_at}

module _ (n d : ℕ) (few : n ≤ 256) (h : d < prime) where
  -- the number j is its own element
  at_number : (j : ℕ) → j < prime → shift residues n d (prime - 1) j ≡ shift_at n d j
  at_number j k = ap (shift residues n d (prime - 1)) (sym (mod-eq_of_lt k))

  pub shift_at_first : (j : ℕ) → j ≡ 0 → d ≡ shift_at n d j
  shift_at_first j e =
      sym (number_first prime prime_2147483647 n (omega arith) d (prime - 1) h (lit< tt))
      ∙ ap (shift residues n d (prime - 1)) (sym e)
      ∙ at_number j (omega arith)

  pub shift_at_other : (j : ℕ) → (j ≡ 0 → ⊥) → j ≤ n → prime - 1 ≡ shift_at n d j
  shift_at_other j some l =
      let e : suc (j - 1) ≡ j = omega arith in
      sym (number_other prime prime_2147483647 n (omega arith) d (prime - 1) (j - 1) h (lit< tt) (omega arith))
      ∙ ap (shift residues n d (prime - 1)) e
      ∙ at_number j (omega arith)

  -- from the product of j - i over all the points and the inverse of j
  pub shift_after : {falls back : List ℕ} (r : Ready n falls back) (j k : ℕ) → k ≡ scaled_shift n d
      → n < j → j < suc (n + n)
      → residues.◌⊕◌
      (residues.◌⊗◌ k (residues.◌⊗◌ (members falls (j - n - 1)) (members back (length back - j)))) (prime - 1)
      ≡ shift_at n d j
  shift_after {falls} {back} r j k e l m =
      let t : suc n + (j - n - 1) ≡ j = omega arith in
      ap₂ (λ a b. residues.◌⊕◌ (residues.◌⊗◌ a b) (prime - 1)) e
      (ap₂ residues.◌⊗◌
      (fall_at_lem r (j - n - 1) (omega arith) ∙ ap (ascending residues 0 (suc n)) t)
      (inverse_at r j (omega arith) (omega arith)))
      ∙ number_beyond prime prime_2147483647 n (omega arith) d (prime - 1) j h (lit< tt) (omega arith) (omega arith)
      ∙ at_number j (omega arith)

pub shift_below : (n d j : ℕ) → shift_at n d j < prime
shift_below n d j = mod-lt _ (lit< tt)
