-- Entries that are the digits of a number, in a field: what the checks of a number and of a product say of them. A bit check says that
-- an entry is 0 or 1, a number's test that the entry in front is the number with these digits, a product's that an entry is the product.
-- Assumes nothing.
use mathlib.Core.Path.{◌≡◌, sym, ◌∙◌, ap, ap₂}
use mathlib.Core.Bool.{cond}
use mathlib.Core.List.{List, [], ◌∷◌}
use Prim.Native.Nat.{ℕ, zero, suc, ◌+◌, ◌-◌, ◌*◌, ◌/◌, ◌%◌, ◌^◌, ◌<◌}
use native.Mathlib.Omega.{arith}
use native.Mathlib.Decide.{dec_lt}
use borrow.Author.Tests.{lt-ltb, le-ltb}
use lib.Dec.{ltb}
use Rattle.algebra.specs.Lists.{All, all[], all∷, tabulate}
use Rattle.algebra.specs.Ops.{Field}
use Rattle.algebra.proofs.Ring.{add-zero, add_assoc}
use Rattle.algebra.proofs.Ring.{ι_add}
use Rattle.algebra.proofs.Members.{all_append, all_left, all_right, all_get_d, all_tabulate}
use Rattle.algebra.proofs.Tables.{length_tabulate, get_d_tabulate}
use Rattle.rules.specs.Settings.{Setting}
use Rattle.rules.specs.Run.{Meaning, on_list}
use Rattle.rules.specs.Walk.{sum_from, less_one, bit_out, bit_tests, weighted, number_test, rest_test, number_tests, product_test}
use Rattle.rules.specs.Values.{two_numbers}
use Rattle.rules.proofs.Circuits.FieldTests.{Known, ι_mul, bit_of, bit_below, bit_zero, zero_bit, number_value}
use Rattle.rules.proofs.Circuits.FieldTests.{value_number, product_value, value_product}
use Rattle.rules.proofs.Circuits.Digits.{total, Bits, number_of, number_below, digit_at, number_again}

tabulate_all : {A : Type 0} {P : A → Type 0} (f : ℕ → A) (n : ℕ) → All P (tabulate f n) → (i : ℕ) → i < n → P (f i)
tabulate_all f n h i l =
    rw (get_d_tabulate f n i (f 0) l) at (all_get_d (f 0) h i (rw length_tabulate l))

pub all_one : {A : Type 0} {P : A → Type 0} {a : A} → All P (a ∷ []) → P a
all_one (all∷ p ps) = p

pub all_first : {A : Type 0} {P : A → Type 0} {a : A} {s : List A} → All P (a ∷ s) → P a
all_first (all∷ p ps) = p

pub all_second : {A : Type 0} {P : A → Type 0} {a b : A} {s : List A} → All P (a ∷ b ∷ s) → P b
all_second (all∷ p (all∷ q ps)) = q

module _ (𝓕 : Field) where
  open 𝓕.ops use {F, ◌⊕◌, ◌⊗◌, neg, 𝟘, 𝟙, ι}

  infixl 65 ◌⊕◌
  infixl 70 ◌⊗◌
  module _ (σ : Setting) (known : Known 𝓕 σ) where
    abbrev m : ℕ
    m = σ.modulus - 1

    module _ (x : ℕ → F) where
      abbrev μ : Meaning F
      μ = on_list 𝓕.ops x

      abbrev Zeros : List F → Type 0
      Zeros = All (λ y. y ≡ 𝟘)

      pub sum_is : (a : F) (f : ℕ → F) (d : ℕ → ℕ) (n : ℕ) → ((i : ℕ) → i < n → f i ≡ ι (d i))
          → sum_from σ μ a f n ≡ a ⊕ ι (total d n)
      unfolding sum_from total
      sum_is a f d zero h = sym (ap (a ⊕◌) 𝓕.law_ι_zero ∙ add-zero 𝓕 a)
      sum_is a f d (suc n) h =
          ap₂ ◌⊕◌ (sum_is a f d n (λ i l. h i (omega arith))) (h n (omega arith))
          ∙ add_assoc 𝓕 a (ι (total d n)) (ι (d n)) ∙ ap (a ⊕◌) (sym (ι_add 𝓕 (total d n) (d n)))

      -- the bits of the entries from e
      pub bits : ℕ → ℕ → ℕ
      bits e i = bit_of 𝓕 (x (e + i))

      pub bits_below : (e n : ℕ) → Bits (bits e) n
      unfolding bits
      bits_below e n i l = bit_below 𝓕 (x (e + i))

      pub bits_are : (e t n : ℕ) → Zeros (bit_tests σ μ e t n) → (i : ℕ) → i < n → x (e + i) ≡ ι (bits e i)
      unfolding bit_tests bit_out less_one bits
      bits_are e t n z i l = bit_zero 𝓕 σ known (x (e + i)) (tabulate_all (λ i. bit_out σ μ (e + i) (t + i)) n z i l)

      pub second_bits : (e b : ℕ) → ((i : ℕ) → i < 2 * b → x (e + i) ≡ ι (bits e i))
          → (i : ℕ) → i < b → x (e + b + i) ≡ ι (bits (e + b) i)
      unfolding bits
      second_bits e b at i l =
          let place : e + (b + i) ≡ e + b + i = omega arith in
          rw place at (at (b + i) (omega arith))

      pub bits_zero : (e t n : ℕ) (d : ℕ → ℕ) → Bits d n → ((i : ℕ) → i < n → x (e + i) ≡ ι (d i)) → Zeros (bit_tests σ μ e t n)
      unfolding bit_tests bit_out less_one
      bits_zero e t n d h at =
          all_tabulate (λ i. bit_out σ μ (e + i) (t + i)) n (λ i l. zero_bit 𝓕 σ known (x (e + i)) (d i) (h i l) (at i l))

      -- ---- the n entries from e are the digits of v
      pub record Digits (v e n : ℕ) : Type 0 where
        pub digits_below : v < 2 ^ n
        pub digit_is : (i : ℕ) → i < n → x (e + i) ≡ ι (v / 2 ^ i % 2)

      pub digits_of : (e n : ℕ) → ((i : ℕ) → i < n → x (e + i) ≡ ι (bits e i)) → Digits (number_of (bits e) n) e n
      digits_of e n at = record {
        digits_below = number_below (bits e) n (bits_below e n);
        digit_is = λ i l. at i l ∙ ap ι (sym (digit_at (bits e) n (bits_below e n) i l));
      }

      digits_zero : (v e t n : ℕ) → Digits v e n → Zeros (bit_tests σ μ e t n)
      digits_zero v e t n r = bits_zero e t n (λ i. v / 2 ^ i % 2) (λ i l. omega arith) r.digit_is

      digits_sum : (a : F) (v e n : ℕ) → Digits v e n → weighted σ μ a e n ≡ a ⊕ ι v
      unfolding weighted
      digits_sum a v e n r =
          sum_is a (λ i. x (e + i) ⊗ ι (2 ^ i)) (λ i. v / 2 ^ i % 2 * 2 ^ i) n
          (λ i l. ap (◌⊗ ι (2 ^ i)) (r.digit_is i l) ∙ sym (ι_mul 𝓕 (v / 2 ^ i % 2) (2 ^ i)))
          ∙ ap (λ k. a ⊕ ι k) (number_again n v r.digits_below)

      -- ---- the test of a number: entry a is the number with these digits
      pub number_is : (v a e n : ℕ) → Digits v e n → number_test σ μ a e n ≡ 𝟘 → x a ≡ ι v
      unfolding number_test
      number_is v a e n r z = number_value 𝓕 σ known (x a) (ι v) (sym (digits_sum (x a ⊗ ι m) v e n r) ∙ z)

      pub is_number : (v a e n : ℕ) → Digits v e n → x a ≡ ι v → number_test σ μ a e n ≡ 𝟘
      unfolding number_test
      is_number v a e n r q =
          digits_sum (x a ⊗ ι m) v e n r ∙ ap (x a ⊗ ι m ⊕◌) (sym q) ∙ value_number 𝓕 σ known (x a)

      -- the second test of a top: entry a and the number with these digits add up to n
      pub rest_sum : (n v a r e b : ℕ) → Digits r e b → x a ≡ ι v
          → rest_test σ μ n a e b ≡ ι (σ.modulus - n) ⊕ ι (v + r)
      unfolding rest_test
      rest_sum n v a r e b d q =
          digits_sum (ι (σ.modulus - n) ⊕ x a) r e b d
          ∙ ap (λ k. ι (σ.modulus - n) ⊕ k ⊕ ι r) q
          ∙ add_assoc 𝓕 _ (ι v) (ι r) ∙ ap (ι (σ.modulus - n) ⊕◌) (sym (ι_add 𝓕 v r))

      -- ---- two numbers' digits, one after another
      pub two_at : (b v w e : ℕ) → Digits v e b → Digits w (e + b) b
          → (j : ℕ) → j < 2 * b → x (e + j) ≡ ι (two_numbers b v w j)
      unfolding two_numbers
      two_at b v w e r r' j l = go (dec_lt j b)
        where
          go : Dec (j < b) → x (e + j) ≡ ι (cond (ltb j b) (v / 2 ^ j % 2) (w / 2 ^ (j - b) % 2))
          go (yes k) = rw (lt-ltb j b k) (r.digit_is j k)
          go (no k) =
              let place : e + j ≡ e + b + (j - b) = omega arith in
              rw (le-ltb j b (omega arith)) (ap x place ∙ r'.digit_is (j - b) (omega arith))

      pub at_two : (b v w e : ℕ) → v < 2 ^ b → w < 2 ^ b → ((j : ℕ) → j < 2 * b → x (e + j) ≡ ι (two_numbers b v w j))
          → Digits v e b × Digits w (e + b) b
      unfolding two_numbers
      at_two b v w e h h' at = (
        record { digits_below = h; digit_is = λ i l. rw (lt-ltb i b l) at (at i (omega arith)) },
        record { digits_below = h'; digit_is = second },
      )
        where
          second : (i : ℕ) → i < b → x (e + b + i) ≡ ι (w / 2 ^ i % 2)
          second i l =
              let place : e + b + i ≡ e + (b + i) = omega arith in
              let back : b + i - b ≡ i = omega arith in
              ap x place ∙ at (b + i) (omega arith)
              ∙ rw (le-ltb (b + i) b (omega arith)) (ap (λ k. ι (w / 2 ^ k % 2)) back)

      -- ---- the kind 19 checks, and a product's
      pub number_checked : (a e t n : ℕ) → Zeros (number_tests σ μ a e t n)
          → Digits (number_of (bits e) n) e n × (x a ≡ ι (number_of (bits e) n))
      unfolding number_tests
      number_checked a e t n z =
          let d = digits_of e n (bits_are e t n (all_left (bit_tests σ μ e t n) _ z)) in
          (d, number_is _ a e n d (all_one (all_right (bit_tests σ μ e t n) _ z)))

      pub checked_number : (v a e t n : ℕ) → Digits v e n → x a ≡ ι v → Zeros (number_tests σ μ a e t n)
      unfolding number_tests
      checked_number v a e t n d q = all_append (digits_zero v e t n d) (all∷ (is_number v a e n d q) all[])

      pub product_checked : (t a b c u v : ℕ) → x a ≡ ι u → x b ≡ ι v → product_test σ μ t a b c ≡ 𝟘 → x c ≡ ι (u * v)
      unfolding product_test
      product_checked t a b c u v p q z = product_value 𝓕 σ known (x c) (x a ⊗ x b) z ∙ ap₂ ◌⊗◌ p q ∙ sym (ι_mul 𝓕 u v)

      pub checked_product : (t a b c u v : ℕ) → x a ≡ ι u → x b ≡ ι v → x c ≡ ι (u * v) → product_test σ μ t a b c ≡ 𝟘
      unfolding product_test
      checked_product t a b c u v p q r =
          ap (◌⊕ x c ⊗ ι m) (ap₂ ◌⊗◌ p q ∙ sym (ι_mul 𝓕 u v) ∙ sym r) ∙ value_product 𝓕 σ known (x c)
