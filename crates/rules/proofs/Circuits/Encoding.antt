-- The encoding of legal values, column by column: its length is the sheet's number of entries, and each entry is below
-- 2^24, since a number has at most 24 bits. Assumes nothing.
use mathlib.Core.Path.{◌≡◌, refl, sym, ◌∙◌, ap, ap₂}
use mathlib.Core.Bool.{Bool, true, false, cond}
use mathlib.Core.List.{List, [], ◌∷◌, ◌++◌}
use Prim.Native.Nat.{ℕ, zero, suc, ◌+◌, ◌-◌, ◌*◌, ◌/◌, ◌%◌, ◌^◌, ◌≤◌, ◌<◌}
use native.Mathlib.Nat.{pow-le-pow_right, mod-lt, div-lt_iff_lt-mul, mul-le-mul}
use native.Mathlib.Omega.{arith}
use borrow.Author.Tests.{ltb-true}
use lib.Dec.{ltb}
use lib.ListN.{length, get_or, length-append, get_or-append}
use lib.Seq.{get_or-append-add}
use Rattle.algebra.specs.Lists.{All, all[], all∷, tabulate}
use Rattle.algebra.proofs.Members.{all_append, all_tabulate, and_left, and_right}
use Rattle.algebra.proofs.Tables.{length_tabulate, get_d_tabulate}
use Rattle.rules.specs.Settings.{Setting, Facts}
use Rattle.rules.specs.Columns.{Column, yes_no, choice, number, top, point, bit_length, entries_of, values_of, entries_in}
use Rattle.rules.specs.Values.{two_numbers, point_entry, encoded, legal_values, encoding}
use Rattle.rules.proofs.Circuits.Limits.{InLimits}
use Rattle.rules.proofs.Circuits.Digits.{one_at_below}

-- ---- by the first column
pub not_legal : (b : Bool) → b ≡ false → b ≡ true → ⊥
not_legal b e h = let z : ◌≡◌ {A = ℕ} 0 1 = cc in omega arith

module _ (c : Column) (cs : List Column) (v : ℕ) (vs : List ℕ) where
  pub legal_head : legal_values (c ∷ cs) (v ∷ vs) ≡ true → v < values_of c
  unfolding legal_values
  legal_head h = ltb-true v (values_of c) (and_left (ltb v (values_of c)) (legal_values cs vs) h)

  pub legal_tail : legal_values (c ∷ cs) (v ∷ vs) ≡ true → legal_values cs vs ≡ true
  unfolding legal_values
  legal_tail h = and_right (ltb v (values_of c)) (legal_values cs vs) h

  pub encoding_head : (i : ℕ) → i < entries_of c → get_or (encoding (c ∷ cs) (v ∷ vs)) i 0 ≡ encoded c v i
  unfolding encoding
  encoding_head i h =
      get_or-append (tabulate (encoded c v) (entries_of c)) (encoding cs vs) 0 i (rw length_tabulate h)
      ∙ get_d_tabulate (encoded c v) (entries_of c) i 0 h

  pub encoding_tail : (i : ℕ) → get_or (encoding (c ∷ cs) (v ∷ vs)) (entries_of c + i) 0 ≡ get_or (encoding cs vs) i 0
  unfolding encoding
  encoding_tail i =
      ap (λ k. get_or (tabulate (encoded c v) (entries_of c) ++ encoding cs vs) (k + i) 0)
      (sym (length_tabulate (encoded c v) (entries_of c)))
      ∙ get_or-append-add (tabulate (encoded c v) (entries_of c)) (encoding cs vs) i 0

-- ---- length
pub encoding_length : (cs : List Column) (vs : List ℕ) → legal_values cs vs ≡ true → length (encoding cs vs) ≡ entries_in cs
unfolding encoding entries_in legal_values
encoding_length [] vs h = refl
encoding_length (c ∷ cs) [] h = absurd (not_legal false refl h)
encoding_length (c ∷ cs) (v ∷ vs) h =
    length-append (tabulate (encoded c v) (entries_of c)) (encoding cs vs)
    ∙ ap₂ ◌+◌ (length_tabulate (encoded c v) (entries_of c)) (encoding_length cs vs (legal_tail c cs v vs h))

-- ---- every entry is below 2^24
pub two_below : (b v w j : ℕ) → two_numbers b v w j < 2
unfolding two_numbers
two_below b v w j = go (ltb j b)
  where
    go : (t : Bool) → cond t (v / 2 ^ j % 2) (w / 2 ^ (j - b) % 2) < 2
    go true = omega arith
    go false = omega arith

-- ---- the two numbers of a point
pub power_some : (n : ℕ) → 0 < 2 ^ n
power_some zero = omega arith
power_some (suc n) = omega (arith, power_some n)

pub x_below : (n v : ℕ) → v % 2 ^ n < 2 ^ n
x_below n v = mod-lt v (power_some n)

pub y_below : (n v : ℕ) → v < values_of (point n) → v / 2 ^ n < 2 ^ n
unfolding values_of
y_below n v l = (div-lt_iff_lt-mul (power_some n)).1 l

-- numbers below 2^12, and their products, are below 2^24
point_below : (n x y : ℕ) → x < 4096 → y < 4096 → (i : ℕ) → point_entry n x y i < 16777216
unfolding point_entry
point_below n x y h k zero = omega arith
point_below n x y h k (suc zero) =
    let a : x ≤ 4095 = omega arith in
    let m : x * x ≤ 4095 * 4095 = mul-le-mul a a in
    omega arith
point_below n x y h k (suc (suc zero)) = omega arith
point_below n x y h k (suc (suc (suc zero))) =
    let a : x ≤ 4095 = omega arith in
    let b : y ≤ 4095 = omega arith in
    let m : x * y ≤ 4095 * 4095 = mul-le-mul a b in
    omega arith
point_below n x y h k (suc (suc (suc (suc j)))) = omega (arith, two_below n x y j)

encoded_below : (c : Column) → InLimits c → (v : ℕ) → v < values_of c → (i : ℕ) → encoded c v i < 16777216
unfolding encoded values_of
encoded_below yes_no w v l i = omega arith
encoded_below (choice n) w v l i = omega (arith, one_at_below v i)
encoded_below (number n) w v l zero = let most : 2 ^ n ≤ 2 ^ 24 = pow-le-pow_right (omega arith) w.1 in omega arith
encoded_below (number n) w v l (suc j) = omega arith
encoded_below (top n) w v l zero = omega arith
encoded_below (top n) w v l (suc j) = omega (arith, two_below (bit_length n) v (n - v) j)
encoded_below (point n) w v l i =
    let most : 2 ^ n ≤ 2 ^ 12 = pow-le-pow_right (omega arith) w.1 in
    point_below n (v % 2 ^ n) (v / 2 ^ n) (omega (arith, x_below n v)) (omega (arith, y_below n v l)) i

pub encoding_below : (cs : List Column) (vs : List ℕ) → All InLimits cs → legal_values cs vs ≡ true
    → All (λ a. a < 16777216) (encoding cs vs)
unfolding encoding legal_values
encoding_below [] vs w h = all[]
encoding_below (c ∷ cs) [] w h = all[]
encoding_below (c ∷ cs) (v ∷ vs) (all∷ w ws) h =
    all_append
    (all_tabulate (encoded c v) (entries_of c) (λ i l. encoded_below c w v (legal_head c cs v vs h) i))
    (encoding_below cs vs ws (legal_tail c cs v vs h))

-- entry i, also past the end
pub entry_below : (cs : List Column) (vs : List ℕ) → All InLimits cs → legal_values cs vs ≡ true
    → (i : ℕ) → get_or (encoding cs vs) i 0 < 16777216
entry_below cs vs w h = at (encoding cs vs) (encoding_below cs vs w h)
  where
    at : (l : List ℕ) → All (λ a. a < 16777216) l → (i : ℕ) → get_or l i 0 < 16777216
    at [] all[] i = omega arith
    at (a ∷ l) (all∷ q qs) zero = q
    at (a ∷ l) (all∷ q qs) (suc i) = at l qs i

pub entry_below_modulus : (σ : Setting) → Facts σ → (cs : List Column) (vs : List ℕ) → All InLimits cs
    → legal_values cs vs ≡ true → (i : ℕ) → get_or (encoding cs vs) i 0 < σ.modulus
entry_below_modulus σ f cs vs w h i = omega (arith, entry_below cs vs w h i)
