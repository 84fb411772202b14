-- Published entries. Those of legal values are at most their column's largest value, so that n of them stay below p where
-- the totals fit. They are every entry of kinds 17 and 18, v of kinds 19 and 20 and the first four of kind 21, and no bit entry:
-- by the columns in front.
-- Assumes nothing.
use mathlib.Core.Path.{◌≡◌, refl, sym, ◌∙◌, ap, subst}
use mathlib.Core.Logic.{⊎_elim, inl, inr}
use mathlib.Core.Bool.{true, false}
use mathlib.Core.List.{List, [], ◌∷◌, ◌++◌}
use Prim.Native.Nat.{ℕ, zero, suc, ◌+◌, ◌-◌, ◌*◌, ◌/◌, ◌%◌, ◌^◌, ◌≤◌, ◌<◌}
use native.Mathlib.Nat.{mul-le-mul, mul-le-mul_right, mul_comm, zero-add, add-zero}
use native.Mathlib.Omega.{arith}
use borrow.Author.Tests.{ltb-true}
use lib.Dec.{ltb}
use lib.ListN.{get_or}
use Rattle.algebra.specs.Lists.{In, every, count_from}
use Rattle.algebra.proofs.Members.{and_left, and_right, in_append, append_in, in_count, count_in_lem}
use Rattle.rules.specs.Settings.{Setting}
use Rattle.rules.specs.Columns.{Column, yes_no, choice, number, top, point, bit_length, entries_of, published_of, values_of}
use Rattle.rules.specs.Columns.{largest_of, entries_in, published_from, totals_fit}
use Rattle.rules.specs.Values.{point_entry, encoded, legal_values, encoding}
use Rattle.rules.proofs.Circuits.Limits.{published_few_of}
use Rattle.rules.proofs.Circuits.Digits.{one_at_below}
use Rattle.rules.proofs.Circuits.Encoding.{x_below, y_below, not_legal, legal_head, legal_tail, encoding_head, encoding_tail}

below_square : (m a : ℕ) → a ≤ m → a ≤ m * m
below_square zero a h = omega arith
below_square (suc m) a h = omega arith

point_largest : (n x y m : ℕ) → x ≤ m → y ≤ m → (i : ℕ) → i < 4 → point_entry n x y i ≤ m * m
unfolding point_entry
point_largest n x y m h k zero l = below_square m x h
point_largest n x y m h k (suc zero) l = mul-le-mul h h
point_largest n x y m h k (suc (suc zero)) l = below_square m y k
point_largest n x y m h k (suc (suc (suc zero))) l = mul-le-mul h k
point_largest n x y m h k (suc (suc (suc (suc j)))) l = absurd (omega arith)

encoded_largest : (c : Column) (v : ℕ) → v < values_of c → (i : ℕ) → i < published_of c → encoded c v i ≤ largest_of c
unfolding encoded values_of largest_of published_of
encoded_largest yes_no v l i h = omega arith
encoded_largest (choice n) v l i h = omega (arith, one_at_below v i)
encoded_largest (number n) v l zero h = omega arith
encoded_largest (number n) v l (suc j) h = absurd (omega arith)
encoded_largest (top n) v l zero h = omega arith
encoded_largest (top n) v l (suc j) h = absurd (omega arith)
encoded_largest (point n) v l i h =
    point_largest n (v % 2 ^ n) (v / 2 ^ n) (2 ^ n - 1) (omega (arith, x_below n v)) (omega (arith, y_below n v l)) i h

published_from_lem : (a e : ℕ) (cs : List Column) → In e (published_from a cs) → a ≤ e
unfolding published_from
published_from_lem a e [] h = absurd h
published_from_lem a e (c ∷ cs) h =
    ⊎_elim
    (λ k. (in_count a (published_of c) e k).0)
    (λ k. let l : a + entries_of c ≤ e = published_from_lem (a + entries_of c) e cs k in omega arith)
    (in_append e (count_from a (published_of c)) (published_from (a + entries_of c) cs) h)

module _ (σ : Setting) (n : ℕ) where
  fit_head : (c : Column) (cs : List Column) → totals_fit σ n (c ∷ cs) ≡ true → n * largest_of c < σ.modulus
  unfolding totals_fit every
  fit_head c cs f = ltb-true _ _ (and_left (ltb (n * largest_of c) σ.modulus) (totals_fit σ n cs) f)

  fit_tail : (c : Column) (cs : List Column) → totals_fit σ n (c ∷ cs) ≡ true → totals_fit σ n cs ≡ true
  unfolding totals_fit every
  fit_tail c cs f = and_right (ltb (n * largest_of c) σ.modulus) (totals_fit σ n cs) f

  -- the entry a + i of a sheet whose first entry is a
  fits_from : (cs : List Column) (vs : List ℕ) → legal_values cs vs ≡ true → totals_fit σ n cs ≡ true
      → (a i : ℕ) → In (a + i) (published_from a cs) → get_or (encoding cs vs) i 0 * n < σ.modulus
  unfolding legal_values published_from
  fits_from [] vs h f a i k = absurd k
  fits_from (c ∷ cs) [] h f a i k = absurd (not_legal false refl h)
  fits_from (c ∷ cs) (v ∷ vs) h f a i k =
      ⊎_elim first (later (fits_from cs vs (legal_tail c cs v vs h) (fit_tail c cs f) (a + entries_of c)))
      (in_append (a + i) (count_from a (published_of c)) (published_from (a + entries_of c) cs) k)
    where
      first : In (a + i) (count_from a (published_of c)) → get_or (encoding (c ∷ cs) (v ∷ vs)) i 0 * n < σ.modulus
      first q =
          let low : i < published_of c = omega (arith, (in_count a (published_of c) (a + i) q).1) in
          let most : encoded c v i * n ≤ largest_of c * n
          = mul-le-mul_right n (encoded_largest c v (legal_head c cs v vs h) i low) in
          let swap : largest_of c * n ≡ n * largest_of c = mul_comm (largest_of c) n in
          rw (encoding_head c cs v vs i (omega (arith, published_few_of c))) (omega (arith, fit_head c cs f))

      later : ((j : ℕ) → In (a + entries_of c + j) (published_from (a + entries_of c) cs)
          → get_or (encoding cs vs) j 0 * n < σ.modulus)
          → In (a + i) (published_from (a + entries_of c) cs) → get_or (encoding (c ∷ cs) (v ∷ vs)) i 0 * n < σ.modulus
      later rest q =
          let past : a + entries_of c ≤ a + i = published_from_lem (a + entries_of c) (a + i) cs q in
          let j : ℕ = i - entries_of c in
          let here : a + i ≡ a + entries_of c + j = omega arith in
          let place : i ≡ entries_of c + j = omega arith in
          subst (λ k. k * n < σ.modulus)
          (sym (ap (λ k. get_or (encoding (c ∷ cs) (v ∷ vs)) k 0) place ∙ encoding_tail c cs v vs j))
          (rest j (subst (λ k. In k (published_from (a + entries_of c) cs)) here q))

  -- n published entries of legal values stay below p where the totals fit
  pub published_fits : (cs : List Column) (vs : List ℕ) → legal_values cs vs ≡ true → totals_fit σ n cs ≡ true
      → (e : ℕ) → In e (published_from 0 cs) → get_or (encoding cs vs) e 0 * n < σ.modulus
  published_fits cs vs h f e k = fits_from cs vs h f 0 e (subst (λ i. In i (published_from 0 cs)) (sym (zero-add e)) k)

-- ---- which entries are published: a column behind the columns `before`
published_at : (c : Column) (after : List Column) (i : ℕ) → i < published_of c
    → (before : List Column) (a : ℕ) → In (a + (entries_in before + i)) (published_from a (before ++ (c ∷ after)))
unfolding entries_in published_from
published_at c after i l [] a =
    append_in _ (count_from a (published_of c)) _ (inl (count_in_lem a (published_of c) _ (omega arith) (omega arith)))
published_at c after i l (d ∷ before) a =
    let there : a + entries_of d + (entries_in before + i) ≡ a + (entries_of d + entries_in before + i) = omega arith in
    let rest = published_from (a + entries_of d) (before ++ (c ∷ after)) in
    append_in _ (count_from a (published_of d)) rest
    (inr (subst (λ e. In e rest) there (published_at c after i l before (a + entries_of d))))

hidden_from : (c : Column) (after : List Column) (j : ℕ) → published_of c ≤ j → j < entries_of c
    → (before : List Column) (a : ℕ) → In (a + (entries_in before + j)) (published_from a (before ++ (c ∷ after))) → ⊥
unfolding entries_in published_from
hidden_from c after j h l [] a k =
    ⊎_elim
    (λ q. omega (arith, (in_count a (published_of c) _ q).1))
    (λ q. omega (arith, published_from_lem (a + entries_of c) _ after q))
    (in_append _ (count_from a (published_of c)) (published_from (a + entries_of c) after) k)
hidden_from c after j h l (d ∷ before) a k =
    let rest = published_from (a + entries_of d) (before ++ (c ∷ after)) in
    let there : a + (entries_of d + entries_in before + j) ≡ a + entries_of d + (entries_in before + j) = omega arith in
    ⊎_elim
    (λ q. omega (arith, (in_count a (published_of d) _ q).1, published_few_of d))
    (λ q. hidden_from c after j h l before (a + entries_of d) (subst (λ e. In e rest) there q))
    (in_append _ (count_from a (published_of d)) rest k)

module _ (before after : List Column) where
  from_start : (c : Column) (i j : ℕ) → i < published_of c → entries_in before + i ≡ j
      → In j (published_from 0 (before ++ (c ∷ after)))
  from_start c i j l e =
      subst (λ k. In k (published_from 0 (before ++ (c ∷ after)))) (zero-add _ ∙ e) (published_at c after i l before 0)

  -- "every entry of kinds 17 and 18, and v of kind 19"
  pub yes_no_published : In (entries_in before) (published_from 0 (before ++ (yes_no ∷ after)))
  unfolding published_of
  yes_no_published = from_start yes_no 0 _ (omega arith) (add-zero _)

  pub options_published : (n i : ℕ) → i < n → In (entries_in before + i) (published_from 0 (before ++ (choice n ∷ after)))
  unfolding published_of
  options_published n i l = from_start (choice n) i _ l refl

  pub number_published : (n : ℕ) → In (entries_in before) (published_from 0 (before ++ (number n ∷ after)))
  unfolding published_of
  number_published n = from_start (number n) 0 _ (omega arith) (add-zero _)

  pub top_published : (n : ℕ) → In (entries_in before) (published_from 0 (before ++ (top n ∷ after)))
  unfolding published_of
  top_published n = from_start (top n) 0 _ (omega arith) (add-zero _)

  -- "The first four entries are published"
  pub point_published : (n i : ℕ) → i < 4 → In (entries_in before + i) (published_from 0 (before ++ (point n ∷ after)))
  unfolding published_of
  point_published n i l = from_start (point n) i _ l refl

  -- "Bit entries are never published": no entry of a column behind its published ones is
  not_published : (c : Column) (j : ℕ) → published_of c ≤ j → j < entries_of c
      → In (entries_in before + j) (published_from 0 (before ++ (c ∷ after))) → ⊥
  not_published c j h l k =
      hidden_from c after j h l before 0
      (subst (λ e. In e (published_from 0 (before ++ (c ∷ after)))) (sym (zero-add (entries_in before + j))) k)

  pub bits_not_published : (n j : ℕ) → j < n
      → In (entries_in before + suc j) (published_from 0 (before ++ (number n ∷ after))) → ⊥
  unfolding published_of entries_of
  bits_not_published n j l k = not_published (number n) (suc j) (omega arith) (omega arith) k

  pub top_bits_not_published : (n j : ℕ) → j < 2 * bit_length n
      → In (entries_in before + suc j) (published_from 0 (before ++ (top n ∷ after))) → ⊥
  unfolding published_of entries_of
  top_bits_not_published n j l k = not_published (top n) (suc j) (omega arith) (omega arith) k

  pub point_bits_not_published : (n j : ℕ) → j < 2 * n
      → In (entries_in before + (4 + j)) (published_from 0 (before ++ (point n ∷ after))) → ⊥
  unfolding published_of entries_of
  point_bits_not_published n j l k = not_published (point n) (4 + j) (omega arith) (omega arith) k
