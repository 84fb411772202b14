-- The inner product by four members in a turn, one from each quarter, whose products are summed before they are split into
-- parts. Each quarter has its own sum so far; in the end the four are joined, since a sum splits at any place.
-- Assumes nothing.
use mathlib.Core.Path.{◌≡◌, refl, sym, ap, ap₂, ◌∙◌}
use Prim.Native.Nat.{ℕ, zero, suc, ◌+◌, ◌*◌, ◌/◌, ◌%◌, ◌^◌, ◌≤◌, ◌<◌}
use native.Mathlib.Nat.{add-zero, add-suc, add_assoc, mod-add-mod, add-mod-mod, mod-eq_of_lt}
use native.Mathlib.Numerals.{add-one}
use native.Mathlib.Omega.{arith}
use Rattle.algebra.specs.Sums.{sum, inner}
use Rattle.algebra.proofs.Remainders.{same_rest}
use Rattle.field.specs.Residues.{prime, top, residues}
use Rattle.field.proofs.Below.{sum_below}
use Rattle.dot.proofs.Parts.{parts_add, Parts}

-- a sum splits at any place
sum_append : (g : ℕ → ℕ) (m n : ℕ) → sum residues (m + n) g ≡ (sum residues m g + sum residues n (λ i. g (m + i))) % prime
unfolding sum
sum_append g m zero =
    ap (λ (n : ℕ). sum residues n g) (add-zero m)
    ∙ sym (ap (λ (t : ℕ). t % prime) (add-zero (sum residues m g)) ∙ mod-eq_of_lt (sum_below m g))
sum_append g m (suc n) =
    let a = sum residues m g in
    let b = sum residues n (λ i. g (m + i)) in
    ap (λ (n : ℕ). sum residues n g) (add-suc m n)
    ∙ ap (λ (t : ℕ). (t + g (m + n)) % prime) (sum_append g m n)
    ∙ mod-add-mod (a + b) prime (g (m + n))
    ∙ ap (λ (t : ℕ). t % prime) (add_assoc a b (g (m + n)))
    ∙ sym (add-mod-mod a (b + g (m + n)) prime)

-- remainders of four terms may be taken first
sum_of_four : (a b c d : ℕ) → (a % prime + b % prime + c % prime + d % prime) % prime ≡ (a + b + c + d) % prime
sum_of_four a b c d =
    let s = a / prime + b / prime + c / prime + d / prime in
    let e : a % prime + b % prime + c % prime + d % prime + prime * s ≡ a + b + c + d + prime * 0 = omega arith in
    same_rest prime _ _ s 0 e

four_equal : {a b c d s t u v : ℕ} → a ≡ s → b ≡ t → c ≡ u → d ≡ v → (a + b + c + d) % prime ≡ (s + t + u + v) % prime
four_equal ea eb ec ed = ap (λ (t : ℕ). t % prime) (ap₂ ◌+◌ (ap₂ ◌+◌ (ap₂ ◌+◌ ea eb) ec) ed)

module _ (x y : ℕ → ℕ) where
  abbrev member : ℕ → ℕ
  member i = residues.◌⊗◌ (x i) (y i)

  -- the inner product of n members from m on
  abbrev pub from : ℕ → ℕ → ℕ
  from m n = inner residues n (λ i. x (m + i)) (λ i. y (m + i))

  -- n members of each quarter
  abbrev pub four : ℕ → ℕ → ℕ
  four q n = inner residues n x y + from q n + from (2 * q) n + from (3 * q) n

  four_quarters : (q : ℕ) → inner residues (4 * q) x y ≡ four q q % prime
  four_quarters q =
      let whole : 4 * q ≡ 3 * q + q = omega arith in
      let three : 3 * q ≡ 2 * q + q = omega arith in
      let two : 2 * q ≡ q + q = omega arith in
      let s : ℕ → ℕ = λ n. inner residues n x y in
      ap s whole ∙ sum_append member (3 * q) q
      ∙ ap (λ (t : ℕ). (t + from (3 * q) q) % prime) (ap s three ∙ sum_append member (2 * q) q)
      ∙ mod-add-mod (s (2 * q) + from (2 * q) q) prime (from (3 * q) q)
      ∙ ap (λ (t : ℕ). (t + from (2 * q) q + from (3 * q) q) % prime) (ap s two ∙ sum_append member q q)
      ∙ last (s q + from q q) (from (2 * q) q) (from (3 * q) q)
    where
      last : (a b c : ℕ) → (a % prime + b + c) % prime ≡ (a + b + c) % prime
      last a b c =
          ap (λ (t : ℕ). t % prime) (add_assoc (a % prime) b c) ∙ mod-add-mod a prime (b + c)
          ∙ ap (λ (t : ℕ). t % prime) (sym (add_assoc a b c))

  module _ (q : ℕ) where
    -- low and high are the sums of the parts of the first i turns
    pub record Quarters (low high i : ℕ) : Type 0 where
      pub low_most : low ≤ top * i
      pub high_most : high ≤ 4 * top * i
      pub is : (low + high) % prime ≡ four q i % prime

    pub start : Quarters 0 0 0
    unfolding sum
    start = record { low_most = omega arith; high_most = omega arith; is = refl }

    pub turn : {low high i : ℕ} (a b c d : ℕ) → Quarters low high i
        → a ≡ x i * y i → b ≡ x (q + i) * y (q + i) → c ≡ x (2 * q + i) * y (2 * q + i) → d ≡ x (3 * q + i) * y (3 * q + i)
        → a + b + c + d < 2 ^ 64
        → Quarters (low + (a + b + c + d) % top) (high + (a + b + c + d) / top) (i + 1)
    unfolding sum
    turn {low} {high} {i} a b c d v ea eb ec ed fits = record {
      low_most = omega arith;
      high_most = omega arith;
      is =
          parts_add low high (a + b + c + d)
          ∙ ap (λ (t : ℕ). (t + (a + b + c + d)) % prime) v.is
          ∙ mod-add-mod (four q i) prime (a + b + c + d)
          ∙ ap (λ (t : ℕ). t % prime) apart
          ∙ sym (sum_of_four (inner residues i x y + a) (from q i + b) (from (2 * q) i + c) (from (3 * q) i + d))
          ∙ four_equal (next (inner residues i x y) ea) (next (from q i) eb)
          (next (from (2 * q) i) ec) (next (from (3 * q) i) ed)
          ∙ ap (λ (n : ℕ). four q n % prime) (sym (add-one i));
    }
      where
        apart : four q i + (a + b + c + d)
            ≡ inner residues i x y + a + (from q i + b) + (from (2 * q) i + c) + (from (3 * q) i + d)
        apart = omega arith

        next : (t : ℕ) {u v : ℕ} → u ≡ v → (t + u) % prime ≡ (t + v % prime) % prime
        next t {u} {v} e = ap (λ (w : ℕ). (t + w) % prime) e ∙ sym (add-mod-mod t v prime)

    -- what the turns leave is the inner product of the first members, four to each
    pub finish : {low high i : ℕ} → Quarters low high i → i ≡ q → Parts x y low high (4 * q)
    finish {low} {high} {i} v e = record {
      low_most = omega (arith, v.low_most);
      high_most = omega (arith, v.high_most);
      is = v.is ∙ ap (λ (n : ℕ). four q n % prime) e ∙ sym (four_quarters q);
    }
