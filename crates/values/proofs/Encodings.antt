-- Laws for writing the encoding of values column by column, and for the test of the values. The encoding of one column more
-- stands behind those before it, at the entry of the cursor. Assumes nothing.
use mathlib.Core.Path.{◌≡◌, refl, sym, ap, ap₂, ◌∙◌}
use mathlib.Core.Bool.{true, ◌&&◌}
use mathlib.Core.List.{List, [], ◌∷◌, ◌++◌, append_assoc, append-nil}
use Prim.Native.Nat.{ℕ, zero, suc, ◌+◌, ◌-◌, ◌*◌, ◌/◌, ◌%◌, ◌^◌, ◌≤◌, ◌<◌}
use native.Mathlib.Nat.{mul-div_right}
use native.Mathlib.Numerals.{add-one}
use native.Mathlib.Omega.{arith}
use borrow.Author.Tests.{eq-eqb, ne_eqb, lt-ltb, le-ltb}
use lib.Dec.{ltb, lit<}
use lib.ListN.{length, get_or, take, drop, length-append, drop_of_length-le}
use lib.Seq.{drop-cons}
use Rattle.algebra.specs.Lists.{tabulate}
use Rattle.algebra.proofs.Tables.{tabulate_front, tabulate_append, tabulate_cong, length_tabulate}
use Rattle.words.specs.Bytes.{elements_of}
use Rattle.words.proofs.Elements.{length_elements}
use Rattle.rules.specs.Columns.{Column, yes_no, number, top, point, bit_length, entries_of, values_of, entries_in, check}
use Rattle.rules.specs.Values.{two_numbers, point_entry, encoded, legal_values, encoding}
use Rattle.rules.specs.Making.{values_fault}

-- ---- one column
-- a number and its bits
pub number_entries : (n v : ℕ) → tabulate (encoded (number n) v) (suc n) ≡ v ∷ tabulate (λ j. v / 2 ^ j % 2) n
unfolding encoded
number_entries n v = tabulate_front (encoded (number n) v) n

-- the b bits of two numbers
module _ (b v w : ℕ) where
  first_bits : (i : ℕ) → i < b → two_numbers b v w i ≡ v / 2 ^ i % 2
  unfolding two_numbers
  first_bits i h = rw (lt-ltb i b h) refl

  second_bits : (i : ℕ) → i < b → two_numbers b v w (b + i) ≡ w / 2 ^ i % 2
  unfolding two_numbers
  second_bits i h = let back : b + i - b ≡ i = omega arith in rw (le-ltb (b + i) b (omega arith), back) refl

  two_bits : tabulate (two_numbers b v w) (2 * b) ≡ tabulate (λ j. v / 2 ^ j % 2) b ++ tabulate (λ j. w / 2 ^ j % 2) b
  two_bits =
      let size : 2 * b ≡ b + b = omega arith in
      ap (tabulate (two_numbers b v w)) size ∙ tabulate_append (two_numbers b v w) b b
      ∙ ap₂ ◌++◌ (tabulate_cong _ _ b first_bits) (tabulate_cong _ _ b second_bits)

-- a number, its bits, and those of what the top n, of b bits, has past it
pub top_entries : (n v b : ℕ) → b ≡ bit_length n
    → tabulate (encoded (top n) v) (suc (2 * b))
    ≡ tabulate (encoded (number b) v) (suc b) ++ tabulate (λ j. (n - v) / 2 ^ j % 2) b
unfolding encoded
top_entries n v b long =
    rw (number_entries b v)
    (tabulate_front (encoded (top n) v) (2 * b) ∙ rw (← long) (ap (λ (l : List ℕ). v ∷ l) (two_bits b v (n - v))))

-- the two numbers of v, their products and their bits
module _ (n v : ℕ) where
  behind_products : (i : ℕ) → encoded (point n) v (4 + i) ≡ two_numbers n (v % 2 ^ n) (v / 2 ^ n) i
  unfolding encoded point_entry
  behind_products i = let e : 4 + i ≡ suc (suc (suc (suc i))) = omega arith in rw e refl

  entries_so : tabulate (encoded (point n) v) (4 + 2 * n)
      ≡ (v % 2 ^ n ∷ v % 2 ^ n * (v % 2 ^ n) ∷ v / 2 ^ n ∷ v % 2 ^ n * (v / 2 ^ n) ∷ [])
      ++ tabulate (λ j. v % 2 ^ n / 2 ^ j % 2) n ++ tabulate (λ j. v / 2 ^ n / 2 ^ j % 2) n
  unfolding encoded point_entry tabulate
  entries_so =
      tabulate_append (encoded (point n) v) 4 (2 * n)
      ∙ ap (λ (l : List ℕ). v % 2 ^ n ∷ v % 2 ^ n * (v % 2 ^ n) ∷ v / 2 ^ n ∷ v % 2 ^ n * (v / 2 ^ n) ∷ l)
      (tabulate_cong _ _ (2 * n) (λ i h. behind_products i) ∙ two_bits n (v % 2 ^ n) (v / 2 ^ n))

  pub point_entries : (x y : ℕ) → x ≡ v % 2 ^ n → y ≡ v / 2 ^ n
      → tabulate (encoded (point n) v) (4 + 2 * n)
      ≡ (x ∷ x * x ∷ y ∷ x * y ∷ []) ++ tabulate (λ j. x / 2 ^ j % 2) n ++ tabulate (λ j. y / 2 ^ j % 2) n
  point_entries x y first second = rw (first, second) entries_so

-- ---- column by column
pub encoding_next : (cs : List Column) (vs : List ℕ) (k : ℕ) → k < length cs → k < length vs
    → encoding (take (suc k) cs) (take (suc k) vs)
    ≡ encoding (take k cs) (take k vs)
    ++ tabulate (encoded (get_or cs k yes_no) (get_or vs k 0)) (entries_of (get_or cs k yes_no))
unfolding encoding
encoding_next [] vs k h l = absurd (omega arith)
encoding_next (c ∷ cs) [] k h l = absurd (omega arith)
encoding_next (c ∷ cs) (v ∷ vs) zero h l = append-nil (tabulate (encoded c v) (entries_of c))
encoding_next (c ∷ cs) (v ∷ vs) (suc k) h l =
    ap (λ (t : List ℕ). tabulate (encoded c v) (entries_of c) ++ t) (encoding_next cs vs k (omega arith) (omega arith))
    ∙ sym (append_assoc (tabulate (encoded c v) (entries_of c)) (encoding (take k cs) (take k vs)) _)

pub encoding_long : (cs : List Column) (vs : List ℕ) (k : ℕ) → k ≤ length cs → k ≤ length vs
    → length (encoding (take k cs) (take k vs)) ≡ entries_in (take k cs)
unfolding encoding entries_in
encoding_long cs vs zero h l = refl
encoding_long [] vs (suc k) h l = absurd (omega arith)
encoding_long (c ∷ cs) [] (suc k) h l = absurd (omega arith)
encoding_long (c ∷ cs) (v ∷ vs) (suc k) h l =
    length-append (tabulate (encoded c v) (entries_of c)) (encoding (take k cs) (take k vs))
    ∙ ap₂ ◌+◌ (length_tabulate (encoded c v) (entries_of c)) (encoding_long cs vs k (omega arith) (omega arith))

-- ---- the test of the values
pub count_values : (values : List ℕ) (n : ℕ) → length values ≡ 4 * n → length (elements_of 4 values) ≡ n
count_values values n e = length_elements 4 values ∙ ap (λ (k : ℕ). k / 4) e ∙ mul-div_right n (lit< tt)

module _ (cs : List Column) (vs : List ℕ) (k : ℕ) where
  pub legal_next : k < length cs → k < length vs
      → legal_values (drop k cs) (drop k vs)
      ≡ ltb (get_or vs k 0) (values_of (get_or cs k yes_no)) && legal_values (drop (k + 1) cs) (drop (k + 1) vs)
  unfolding legal_values
  legal_next h l = rw (add-one, drop-cons cs k yes_no h, drop-cons vs k 0 l)

  pub legal_end : length cs ≤ k → length vs ≤ k → legal_values (drop k cs) (drop k vs) ≡ true
  unfolding legal_values
  legal_end h l = rw (drop_of_length-le cs {i = k} h, drop_of_length-le vs {i = k} l)

module _ (cs : List Column) (values : List ℕ) where
  pub values_missing : (length values ≡ 4 * length cs → ⊥) → values_fault cs values ≡ 5
  unfolding values_fault
  values_missing h = rw (ne_eqb (length values) (4 * length cs) h)

  pub values_each : length values ≡ 4 * length cs → values_fault cs values ≡ check (legal_values cs (elements_of 4 values)) 5
  unfolding values_fault
  values_each h = rw (eq-eqb (length values) (4 * length cs) h)
