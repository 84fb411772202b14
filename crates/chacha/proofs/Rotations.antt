-- A word rotated to the left: the bits that stay are shifted by n, so they have none in common with the n bits that come in.
-- Assumes that x is a word, and n at most 32.
use Rattle.std.proofs.Common.{◌≡◌, ℕ, zero, suc, ◌+◌, ◌-◌, ◌*◌, ◌/◌, ◌%◌, ◌^◌, ◌<◌, ◌≤◌, ◌∙◌, ap₂, arith}
use Rattle.std.proofs.Common.{List, [], ◌∷◌, get_or, set, add-zero, shr_lt, mod-lt, lit<, w32}
use Rattle.std.specs.Int.{rotate_left}
use native.Mathlib.Nat.{mul-mod_left}
use lib.Bits.{bit_or, bit_xor, or_shifted, xor_lt}
use lib.Pow.{shl-shr, mod-pow-add}
use Rattle.chacha.specs.Words.{rotated}

module _ (x m n : ℕ) where
  -- what stays of x where n bits of m + n leave
  stays : x * 2 ^ n % 2 ^ (m + n) ≡ x % 2 ^ m * 2 ^ n
  stays =
      mod-pow-add (x * 2 ^ n) m n
      ∙ ap₂ (λ (a b : ℕ). a % 2 ^ m * 2 ^ n + b) (shl-shr x n) (mul-mod_left x (2 ^ n))
      ∙ add-zero (x % 2 ^ m * 2 ^ n)

  apart : x < 2 ^ (n + m) → bit_or (x * 2 ^ n % 2 ^ (m + n)) (x / 2 ^ m) ≡ x * 2 ^ n % 2 ^ (m + n) + x / 2 ^ m
  apart h = rw stays (or_shifted (x % 2 ^ m) n (x / 2 ^ m) (shr_lt n m h))

pub rotated_or : (x n : ℕ) → x < 2 ^ 32 → n ≤ 32 → bit_or (x * 2 ^ n % 2 ^ 32) (x / 2 ^ (32 - n)) ≡ rotated x n
unfolding rotated
rotated_or x n h k =
    let e : 32 - n + n ≡ 32 = omega arith in
    let f : n + (32 - n) ≡ 32 = omega arith in
    rw e at (apart x (32 - n) n (rw f h))

-- as the library has it, where both counts are taken modulo 32
pub rotated_left : (x n : ℕ) → x < 2 ^ 32 → 0 < n → n < 32 → rotate_left w32 x n ≡ rotated x n
rotated_left x n h k l =
    let e : n % 32 ≡ n = omega arith in
    let f : (32 - n) % 32 ≡ 32 - n = omega arith in
    rw (e, f) (rotated_or x n h (omega arith))

-- words stay words where another is stored, a sum that wraps
module _ (v : ℕ) where
  words_set : (s : List ℕ) (a : ℕ) → ((i : ℕ) → get_or s i 0 < 2 ^ 32) → (i : ℕ) → get_or (set s a (v % 2 ^ 32)) i 0 < 2 ^ 32
  words_set [] a h i = h i
  words_set (x ∷ s) zero h zero = mod-lt v (lit< tt)
  words_set (x ∷ s) zero h (suc i) = h (suc i)
  words_set (x ∷ s) (suc a) h zero = h zero
  words_set (x ∷ s) (suc a) h (suc i) = words_set s a (λ j. h (suc j)) i

-- the word that is rotated is one
pub word_xor : (s : List ℕ) (a d v : ℕ) → ((i : ℕ) → get_or s i 0 < 2 ^ 32)
    → bit_xor (get_or (set s a (v % 2 ^ 32)) d 0) (get_or (set s a (v % 2 ^ 32)) a 0) < 2 ^ 32
word_xor s a d v h = xor_lt 32 _ _ (words_set v s a h d) (words_set v s a h a)
