-- Counting pairs: where f has at most a roots among the points, only so many rows hold any pair; where it has more, f is
-- 0 everywhere, so g is not, and each row holds at most b pairs. Assumes nothing.
use mathlib.Core.Path.{◌≡◌, refl}
use mathlib.Core.Bool.{Bool, true, false}
use Prim.Native.Nat.{ℕ, ◌+◌, ◌*◌, ◌≤◌, ◌<◌, max}
use native.Mathlib.Nat.{mul-le-mul_right}
use native.Mathlib.Decide.{dec_le}
use native.Mathlib.Omega.{arith}
use Rattle.algebra.specs.Ops.{Field}
use Rattle.algebra.specs.Polynomial.{PolyFn}
use Rattle.algebra.specs.Count.{count, count_pairs}
use Rattle.algebra.specs.Claims.{Vanishes, Apart, PairBound}
use Rattle.algebra.proofs.Count.{pairs_by_rows, pairs_in_rows, many_roots, root_count}

abbrev is_yes : {A : Type 0} → Dec A → Bool
is_yes (yes a) = true
is_yes (no n) = false

from_yes : {A : Type 0} (d : Dec A) → is_yes d ≡ true → A
from_yes (yes a) e = a
from_yes (no n) e = absurd (let z : ◌≡◌ {A = ℕ} 0 1 = cc in omega arith)

from_no : {A : Type 0} (d : Dec A) → is_yes d ≡ false → A → ⊥
from_no (yes a) e x = let z : ◌≡◌ {A = ℕ} 0 1 = cc in omega arith
from_no (no n) e x = n x

not-true : (b : Bool) → (b ≡ true → ⊥) → b ≡ false
not-true true h = absurd (h refl)
not-true false h = refl

module _ (𝓕 : Field) where
  open 𝓕.ops use {F, 𝟘}

  pub pair_bound : PairBound 𝓕
  pair_bound a b f g pf pg notBoth n m rr ss apartR apartS t both = go (dec_le (count n root) a)
    where
      -- row i's point is a root of f
      root : ℕ → Bool
      root i = is_yes (𝓕.dec (f (rr i)) 𝟘)

      off : (i j : ℕ) → root i ≡ false → t i j ≡ false
      off i j e = not-true (t i j) (λ k. from_no (𝓕.dec (f (rr i)) 𝟘) e (both i j k).0)

      go : Dec (count n root ≤ a) → count_pairs n m t ≤ max (a * m) (n * b)
      go (yes few) =
          let rows : count_pairs n m t ≤ count n root * m = pairs_in_rows n m t root off in
          omega (arith, mul-le-mul_right m few)
      go (no many) =
          let everywhere : Vanishes 𝓕 f =
          many_roots 𝓕 a f pf n rr apartR root (λ i l e. from_yes (𝓕.dec (f (rr i)) 𝟘) e) (omega arith) in
          let rows : count_pairs n m t ≤ n * b =
          pairs_by_rows n m b t (λ i l. root_count 𝓕 b g pg (notBoth everywhere) m ss apartS (t i) (λ j k e. (both i j e).1)) in
          omega arith
