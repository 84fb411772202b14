-- Counting roots: the numbers that pass a test are a list of distinct numbers as long as the count, so the root bound
-- bounds the count. Assumes nothing.
use mathlib.Core.Path.{◌≡◌, refl, sym, ◌∙◌}
use mathlib.Core.Logic.{◌≢◌}
use mathlib.Core.Bool.{Bool, true, false, cond}
use mathlib.Core.List.{List, [], ◌∷◌, map}
use Prim.Native.Nat.{ℕ, zero, suc, ◌+◌, ◌*◌, ◌≤◌, ◌<◌}
use native.Mathlib.Decide.{dec_le}
use native.Mathlib.Omega.{arith}
use lib.ListN.{length, length-map}
use Rattle.algebra.specs.Lists.{All, all[], all∷, Distinct, distinct[], distinct∷}
use Rattle.algebra.specs.Ops.{Field}
use Rattle.algebra.specs.Polynomial.{PolyFn}
use Rattle.algebra.specs.Count.{count, count_pairs}
use Rattle.algebra.specs.Claims.{Vanishes, Apart, RootCount}
use Rattle.algebra.proofs.Members.{all_map, all_both, map_all, map_distinct}
use Rattle.algebra.proofs.Roots.{root_bound}

-- the numbers that are counted, as a list
record Counted (n : ℕ) (t : ℕ → Bool) (k : ℕ) : Type 0 where
  found : List ℕ
  many : length found ≡ k
  apart : Distinct found
  low : All (λ i. i < n) found
  pass : All (λ i. t i ≡ true) found

counted : (n : ℕ) (t : ℕ → Bool) → Counted n t (count n t)
unfolding count
counted zero t = record { found = []; many = refl; apart = distinct[]; low = all[]; pass = all[] }
counted (suc n) t = go (t n) refl (counted n t)
  where
    go : (b : Bool) → t n ≡ b → {k : ℕ} → Counted n t k → Counted (suc n) t (k + cond b 1 0)
    go true e r = record {
      found = n ∷ r.found;
      many = omega (arith, r.many);
      apart = distinct∷ {a = n} (all_map (λ i l. omega arith) r.low) r.apart;
      low = all∷ {a = n} (omega arith) (all_map (λ i l. omega arith) r.low);
      pass = all∷ e r.pass;
    }
    go false e r = record {
      found = r.found;
      many = omega (arith, r.many);
      apart = r.apart;
      low = all_map (λ i l. omega arith) r.low;
      pass = r.pass;
    }

pub count_le : (n : ℕ) (t : ℕ → Bool) → count n t ≤ n
unfolding count
count_le zero t = omega arith
count_le (suc n) t = go (t n) (count_le n t)
  where
    go : (b : Bool) {k : ℕ} → k ≤ n → k + cond b 1 0 ≤ suc n
    go true h = omega arith
    go false h = omega arith

pub count_none : (m : ℕ) (t : ℕ → Bool) → ((j : ℕ) → t j ≡ false) → count m t ≡ 0
unfolding count
count_none zero t h = refl
count_none (suc m) t h = rw (h m) (omega (arith, count_none m t h))

-- where each row has at most k
pub pairs_by_rows : (n m k : ℕ) (t : ℕ → ℕ → Bool) → ((i : ℕ) → i < n → count m (t i) ≤ k) → count_pairs n m t ≤ n * k
unfolding count_pairs
pairs_by_rows zero m k t h = omega arith
pairs_by_rows (suc n) m k t h = omega (arith, pairs_by_rows n m k t (λ i l. h i (omega arith)), h n (omega arith))

-- where only the rows that c counts have any
pub pairs_in_rows : (n m : ℕ) (t : ℕ → ℕ → Bool) (c : ℕ → Bool) → ((i j : ℕ) → c i ≡ false → t i j ≡ false)
    → count_pairs n m t ≤ count n c * m
unfolding count_pairs count
pairs_in_rows zero m t c h = omega arith
pairs_in_rows (suc n) m t c h = go (c n) refl (pairs_in_rows n m t c h)
  where
    go : (b : Bool) → c n ≡ b → count_pairs n m t ≤ count n c * m
        → count_pairs n m t + count m (t n) ≤ (count n c + cond b 1 0) * m
    go true e ih = omega (arith, ih, count_le m (t n))
    go false e ih = omega (arith, ih, count_none m (t n) (λ j. h n j e))

module _ (𝓕 : Field) where
  open 𝓕.ops use {F, 𝟘}

  -- more roots than the degree among the points, and the function is 0 everywhere
  pub many_roots : (n : ℕ) (f : F → F) → PolyFn 𝓕 n f → (m : ℕ) (pt : ℕ → F) → Apart 𝓕 m pt → (t : ℕ → Bool)
      → ((i : ℕ) → i < m → t i ≡ true → f (pt i) ≡ 𝟘) → n < count m t → Vanishes 𝓕 f
  many_roots n f p m pt apart t root h =
      let r : Counted m t (count m t) = counted m t in
      root_bound 𝓕 n f (map pt r.found) p (omega (arith, length-map r.found pt, r.many))
      (map_distinct pt apart r.low r.apart)
      (map_all pt (all_both root r.low r.pass))

  pub root_count : RootCount 𝓕
  root_count n f p nz m pt apart t root = go (dec_le (count m t) n)
    where
      go : Dec (count m t ≤ n) → count m t ≤ n
      go (yes h) = h
      go (no h) = absurd (nz (many_roots n f p m pt apart t root (omega arith)))
