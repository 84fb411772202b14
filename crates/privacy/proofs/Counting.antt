-- Choices are counted the same after each element is moved modulo p by an amount that the elements before it decide: whatever these are,
-- the move permutes the numbers below p. Each choice counts once, and there are p ^ n. Assumes nothing.
use mathlib.Core.Path.{◌≡◌, refl, sym, ◌∙◌, ap}
use mathlib.Core.Logic.{◌≢◌, inl, inr}
use mathlib.Core.Bool.{Bool, true, false, cond, ◌&&◌}
use mathlib.Core.List.{List, [], ◌∷◌, map}
use Prim.Native.Nat.{ℕ, zero, suc, ◌+◌, ◌*◌, ◌/◌, ◌%◌, ◌^◌, ◌≤◌, ◌<◌}
use native.Mathlib.Nat.{div-add-mod', mul-le-mul_right, mod-lt, pow-zero, pow-succ'}
use native.Mathlib.Decide.{dec_lt}
use native.Mathlib.Omega.{arith}
use borrow.Author.Tests.{eq-eqb, ne_eqb}
use lib.Dec.{eqb}
use lib.ListN.{length, get_or, take, length-map}
use Rattle.algebra.specs.Lists.{All, all[], all∷, In, Distinct, distinct∷, Rearranged, sum_over, count_from}
use Rattle.algebra.proofs.Members.{all_in, of_map, in_count, count_in_lem, count_distinct, length_count, apart_count}
use Rattle.algebra.proofs.Rearrangement.{rearranged_sum, fills, sum_cong, sum_none, sum_map}
use Rattle.words.specs.Bytes.{same_bytes}
use Rattle.privacy.specs.Choices.{count_choices, CountsEach}

-- ---- tests that agree on the choices count the same
pub count_same : (p n : ℕ) (t u : List ℕ → Bool) → ((zs : List ℕ) → length zs ≡ n → All (λ z. z < p) zs → t zs ≡ u zs)
    → count_choices p n t ≡ count_choices p n u
unfolding count_choices
count_same p zero t u h = ap (λ (b : Bool). cond b 1 0) (h [] refl all[])
count_same p (suc n) t u h =
    sum_cong _ _ (count_from 0 p) (λ z k.
    count_same p n (λ zs. t (z ∷ zs)) (λ zs. u (z ∷ zs))
    (λ zs e b. (let q = in_count 0 p z k in h (z ∷ zs) (ap suc e) (all∷ (omega arith) b))))

-- ---- elements moved one to one
-- numbers below p stay apart when c is added modulo p
still_apart : (p c i j : ℕ) → i < j → j < p → (i + c) % p ≢ (j + c) % p
still_apart p c i j l m e = go (dec_lt ((i + c) / p) ((j + c) / p))
  where
    go : Dec ((i + c) / p < (j + c) / p) → ⊥
    go (yes less) =
        let turn : suc ((i + c) / p) * p ≤ (j + c) / p * p = mul-le-mul_right p less in
        omega (arith, div-add-mod' (i + c) p, div-add-mod' (j + c) p)
    go (no more) =
        let turn : (j + c) / p * p ≤ (i + c) / p * p = mul-le-mul_right p (omega arith) in
        omega (arith, div-add-mod' (i + c) p, div-add-mod' (j + c) p)

permuted : (p c : ℕ) → Rearranged (map (λ z. (z + c) % p) (count_from 0 p)) (count_from 0 p)
permuted p c =
    fills (map (λ z. (z + c) % p) (count_from 0 p)) (count_from 0 p) (apart_count _ p (still_apart p c)) (count_distinct 0 p) within
    (omega (arith, length-map (count_from 0 p) (λ z. (z + c) % p)))
  where
    within : (x : ℕ) → In x (map (λ z. (z + c) % p) (count_from 0 p)) → In x (count_from 0 p)
    within x h =
        let from = of_map (λ z. (z + c) % p) x (count_from 0 p) h in
        let some = in_count 0 p from.0 from.1 in
        count_in_lem 0 p x (omega arith) (omega (arith, mod-lt (from.0 + c) {m = p} (omega arith), from.2))

-- each element moved by an amount that the elements before it decide
unfoldable pub moved : ℕ → (List ℕ → ℕ) → List ℕ → List ℕ
moved p amount [] = []
moved p amount (z ∷ zs) = (z + amount []) % p ∷ moved p (λ before. amount (z ∷ before)) zs

pub count_moved : (p n : ℕ) (amount : List ℕ → ℕ) (t : List ℕ → Bool)
    → count_choices p n (λ zs. t (moved p amount zs)) ≡ count_choices p n t
unfolding count_choices moved
count_moved p zero amount t = refl
count_moved p (suc n) amount t =
    sum_cong _ _ (count_from 0 p) (λ z k.
    count_moved p n (λ before. amount (z ∷ before)) (λ zs. t ((z + amount []) % p ∷ zs)))
    ∙ sym (sum_map (λ z. count_choices p n (λ zs. t (z ∷ zs))) (λ z. (z + amount []) % p) (count_from 0 p))
    ∙ rearranged_sum _ (permuted p (amount []))

-- what is moved
module _ (p : ℕ) where
  pub below_moved : 0 < p → (amount : List ℕ → ℕ) (zs : List ℕ) → All (λ z. z < p) (moved p amount zs)
  unfolding moved
  below_moved some amount [] = all[]
  below_moved some amount (z ∷ zs) = all∷ (mod-lt (z + amount []) some) (below_moved some _ zs)

  pub moved_at : (amount : List ℕ → ℕ) (zs : List ℕ) (k : ℕ) → k < length zs
      → get_or (moved p amount zs) k 0 ≡ (get_or zs k 0 + amount (take k zs)) % p
  unfolding moved
  moved_at amount [] k l = absurd (omega arith)
  moved_at amount (z ∷ zs) zero l = refl
  moved_at amount (z ∷ zs) (suc k) l = moved_at (λ before. amount (z ∷ before)) zs k (omega arith)

-- ---- what a count counts
-- sums over a list: one member's term is among them; where it alone is not 0 it is the sum; equal terms
has_term : (f : ℕ → ℕ) (x : ℕ) (s : List ℕ) → In x s → f x ≤ sum_over f s
unfolding sum_over
has_term f x [] k = elim k [ ]
has_term f x (y ∷ s) (inl e) = omega (arith, ap f e)
has_term f x (y ∷ s) (inr k) = omega (arith, has_term f x s k)

only_term : (f : ℕ → ℕ) (x : ℕ) (s : List ℕ) → In x s → Distinct s → ((y : ℕ) → y ≢ x → f y ≡ 0) → sum_over f s ≡ f x
unfolding sum_over
only_term f x [] k _ h = elim k [ ]
only_term f x (y ∷ s) (inl e) (distinct∷ fresh d) h =
    let others : sum_over f s ≡ 0 =
    sum_cong f (λ z. 0) s (λ z k. h z (λ q. all_in z s fresh k (q ∙ sym e))) ∙ sum_none s in
    omega (arith, ap f e)
only_term f x (y ∷ s) (inr k) (distinct∷ fresh d) h =
    let first : f y ≡ 0 = h y (λ q. all_in x s fresh k (sym q)) in
    omega (arith, only_term f x s k d h)

equal_terms : (c : ℕ) (s : List ℕ) → sum_over (λ x. c) s ≡ length s * c
unfolding sum_over
equal_terms c [] = omega arith
equal_terms c (x ∷ s) = omega (arith, equal_terms c s)

-- no choice passes a test that none passes, and one that a choice passes counts it
count_none : (p n : ℕ) → count_choices p n (λ zs. false) ≡ 0
unfolding count_choices
count_none p zero = refl
count_none p (suc n) = sum_cong _ (λ z. 0) (count_from 0 p) (λ z k. count_none p n) ∙ sum_none (count_from 0 p)

pub count_some : (p n : ℕ) (t : List ℕ → Bool) (zs : List ℕ) → length zs ≡ n → All (λ z. z < p) zs → t zs ≡ true
    → 0 < count_choices p n t
unfolding count_choices
count_some p zero t [] e b h = rw h (omega arith)
count_some p zero t (z ∷ zs) e b h = absurd (omega arith)
count_some p (suc n) t [] e b h = absurd (omega arith)
count_some p (suc n) t (z ∷ zs) e (all∷ l b) h =
    let rest : 0 < count_choices p n (λ zs. t (z ∷ zs)) = count_some p n (λ zs. t (z ∷ zs)) zs (omega arith) b h in
    omega (arith, has_term (λ z. count_choices p n (λ zs. t (z ∷ zs))) z (count_from 0 p) (count_in_lem 0 p z (omega arith) (omega arith)))

count_once : (p n : ℕ) (zs : List ℕ) → length zs ≡ n → All (λ z. z < p) zs → count_choices p n (same_bytes zs) ≡ 1
unfolding count_choices same_bytes
count_once p zero [] e b = refl
count_once p zero (z ∷ zs) e b = absurd (omega arith)
count_once p (suc n) [] e b = absurd (omega arith)
count_once p (suc n) (z ∷ zs) e (all∷ l b) =
    only_term (λ y. with_first (eqb z y)) z (count_from 0 p) (count_in_lem 0 p z (omega arith) (omega arith)) (count_distinct 0 p)
    (λ y d. ap with_first (ne_eqb z y (λ q. d (sym q))) ∙ count_none p n)
    ∙ ap with_first (eq-eqb z z refl)
    ∙ count_once p n zs (omega arith) b
  where
    with_first : Bool → ℕ
    with_first a = count_choices p n (λ ws. a && same_bytes zs ws)

count_all : (p n : ℕ) → count_choices p n (λ zs. true) ≡ p ^ n
unfolding count_choices
count_all p zero = sym (pow-zero p)
count_all p (suc n) =
    sum_cong _ (λ z. p ^ n) (count_from 0 p) (λ z k. count_all p n)
    ∙ equal_terms (p ^ n) (count_from 0 p)
    ∙ ap (λ (m : ℕ). m * p ^ n) (length_count 0 p)
    ∙ sym (pow-succ' p n)

pub counts_each : (p n : ℕ) → CountsEach p n
counts_each p n = record { once = count_once p n; all = count_all p n }
