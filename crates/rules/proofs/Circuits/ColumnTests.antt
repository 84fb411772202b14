-- One column in a field: its tests are all zero exactly when its entries encode a legal value. A bit check says that an
-- entry is 0 or 1; the sums say that the options' entries add up to 1, that v is the number with its bits, that v and the
-- number with the second bits add up to the top; a product's test says that the entry is the product.
-- Assumes nothing.
use mathlib.Core.Path.{◌≡◌, sym, ◌∙◌, ap, ap₂}
use mathlib.Core.List.{List, [], ◌∷◌, ◌++◌}
use Prim.Native.Nat.{ℕ, zero, suc, ◌+◌, ◌-◌, ◌*◌, ◌/◌, ◌%◌, ◌^◌, ◌≤◌, ◌<◌}
use native.Mathlib.Nat.{pow-le-pow_right, mul-le-mul_left, add-mul-div_left, add-mul-mod_self_left, mod-eq_of_lt, div-eq_of_lt}
use native.Mathlib.Nat.{add-zero as n-add-zero}
use native.Mathlib.Omega.{arith}
use Rattle.algebra.specs.Lists.{All, all[], all∷}
use Rattle.algebra.specs.Ops.{Field}
use Rattle.algebra.proofs.Ring.{neg_add}
use Rattle.algebra.proofs.Members.{all_append, all_left, all_right}
use Rattle.rules.specs.Settings.{Setting}
use Rattle.rules.specs.Columns.{Column, yes_no, choice, number, top, point, bit_length, entries_of, values_of}
use Rattle.rules.specs.Run.{Meaning, on_list}
use Rattle.rules.specs.Walk.{sum_from, bit_tests, number_test, rest_test, number_tests, product_test, column_tests}
use Rattle.rules.specs.Values.{two_numbers, point_entry, encoded}
use Rattle.rules.proofs.Circuits.BitLength.{BitLength, bit_length_lem}
use Rattle.rules.proofs.Circuits.Limits.{InLimits}
use Rattle.rules.proofs.Circuits.Encoding.{two_below, x_below, y_below}
use Rattle.rules.proofs.Circuits.FieldTests.{Known, ι_one, choice_one}
use Rattle.rules.proofs.Circuits.FieldTests.{rest_zero, zero_rest}
use Rattle.rules.proofs.Circuits.DigitTests.{all_one, all_first, all_second, sum_is, bits}
use Rattle.rules.proofs.Circuits.DigitTests.{bits_below, bits_are, second_bits, bits_zero}
use Rattle.rules.proofs.Circuits.DigitTests.{Digits, digits_of, number_is, is_number, rest_sum, two_at, at_two}
use Rattle.rules.proofs.Circuits.DigitTests.{number_checked, checked_number, product_checked, checked_product}
use Rattle.rules.proofs.Circuits.Digits.{total, number_of, one_at, one_at_below}
use Rattle.rules.proofs.Circuits.Digits.{total_most, One, total_one, one_total}

-- x + p y has the parts x and y, and is below p p
point_value_below : (p x y : ℕ) → x < p → y < p → x + p * y < p * p
point_value_below p x y h k = let m : p * suc y ≤ p * p = mul-le-mul_left p k in omega arith

point_value_first : (p x y : ℕ) → x < p → (x + p * y) % p ≡ x
point_value_first p x y h = add-mul-mod_self_left x p y ∙ mod-eq_of_lt h

point_value_second : (p x y : ℕ) → x < p → (x + p * y) / p ≡ y
point_value_second p x y h =
    let some : 0 < p = omega arith in
    add-mul-div_left x y some ∙ ap (◌+ y) (div-eq_of_lt h) ∙ omega arith

module _ (𝓕 : Field) where
  open 𝓕.ops use {F, ◌⊕◌, ◌⊗◌, neg, 𝟘, 𝟙, ι}

  infixl 65 ◌⊕◌
  infixl 70 ◌⊗◌
  -- the entries from e encode a value of the column c
  pub record Encoded (x : ℕ → F) (e : ℕ) (c : Column) : Type 0 where
    pub value : ℕ
    pub value_below : value < values_of c
    pub column_is : (i : ℕ) → i < entries_of c → x (e + i) ≡ ι (encoded c value i)

  module _ (σ : Setting) (known : Known 𝓕 σ) where
    abbrev m : ℕ
    m = σ.modulus - 1

    module _ (x : ℕ → F) where
      abbrev μ : Meaning F
      μ = on_list 𝓕.ops x

      abbrev Zeros : List F → Type 0
      Zeros = All (λ y. y ≡ 𝟘)

      -- ---- zero tests say a legal value
      pub column_encoded : (c : Column) → InLimits c → (e t : ℕ) → Zeros (column_tests σ μ e t c) → Encoded x e c
      unfolding column_tests values_of encoded point_entry entries_of
      column_encoded yes_no w e t z = record {
        value = bits 𝓕 σ known x e 0;
        value_below = bits_below 𝓕 σ known x e 1 0 (omega arith);
        column_is = λ i l. let i0 : i ≡ 0 = omega arith in ap (λ k. x (e + k)) i0 ∙ bits_are 𝓕 σ known x e t 1 z 0 (omega arith);
      }
      column_encoded (choice n) w e t z = record {
        value = one.chosen;
        value_below = one.chosen_below;
        column_is = λ i l. at i l ∙ ap ι (one.digits_are i l);
      }
        where
          at : (i : ℕ) → i < n → x (e + i) ≡ ι (bits 𝓕 σ known x e i)
          at = bits_are 𝓕 σ known x e t n (all_left (bit_tests σ μ e t n) _ z)

          last : ι m ⊕ ι (total (bits 𝓕 σ known x e) n) ≡ 𝟘
          last =
              sym (sum_is 𝓕 σ known x (ι m) (λ i. x (e + i)) (bits 𝓕 σ known x e) n at) ∙ all_one (all_right (bit_tests σ μ e t n) _ z)

          one : One (bits 𝓕 σ known x e) n
          one =
              let most : total (bits 𝓕 σ known x e) n ≤ n = total_most (bits 𝓕 σ known x e) n (bits_below 𝓕 σ known x e n) in
              total_one (bits 𝓕 σ known x e) n (bits_below 𝓕 σ known x e n)
              (choice_one 𝓕 σ known (total (bits 𝓕 σ known x e) n) (omega (arith, w.1)) last)
      column_encoded (number n) w e t z = record {
        value = number_of (bits 𝓕 σ known x (suc e)) n;
        value_below = d.0.digits_below;
        column_is = at_entry;
      }
        where
          d : Digits 𝓕 σ known x (number_of (bits 𝓕 σ known x (suc e)) n) (suc e) n × (x e ≡ ι (number_of (bits 𝓕 σ known x (suc e)) n))
          d = number_checked 𝓕 σ known x e (suc e) t n z

          at_entry : (i : ℕ) → i < suc n → x (e + i) ≡ ι (encoded (number n) (number_of (bits 𝓕 σ known x (suc e)) n) i)
          at_entry zero l = ap x (n-add-zero e) ∙ d.1
          at_entry (suc j) l =
              let shift : e + suc j ≡ suc e + j = omega arith in
              ap x shift ∙ d.0.digit_is j (omega arith)
      column_encoded (point n) w e t z = record {
        value = u + 2 ^ n * v;
        value_below = point_value_below (2 ^ n) u v d.0.digits_below d'.0.digits_below;
        column_is = λ i l. at_entry i l ∙ ap₂ (λ a b. ι (point_entry n a b i))
            (sym (point_value_first (2 ^ n) u v d.0.digits_below))
            (sym (point_value_second (2 ^ n) u v d.0.digits_below));
      }
        where
          products : List F
          products = product_test σ μ (t + n + n) e e (e + 1) ∷ product_test σ μ (suc (t + n + n)) e (e + 2) (e + 3) ∷ []

          u : ℕ
          u = number_of (bits 𝓕 σ known x (e + 4)) n

          v : ℕ
          v = number_of (bits 𝓕 σ known x (e + 4 + n)) n

          rest : Zeros (number_tests σ μ (e + 2) (e + 4 + n) (t + n) n ++ products)
          rest = all_right (number_tests σ μ e (e + 4) t n) _ z

          d : Digits 𝓕 σ known x u (e + 4) n × (x e ≡ ι u)
          d = number_checked 𝓕 σ known x e (e + 4) t n (all_left (number_tests σ μ e (e + 4) t n) _ z)

          d' : Digits 𝓕 σ known x v (e + 4 + n) n × (x (e + 2) ≡ ι v)
          d' =
              number_checked 𝓕 σ known x (e + 2) (e + 4 + n) (t + n) n
              (all_left (number_tests σ μ (e + 2) (e + 4 + n) (t + n) n) _ rest)

          last : Zeros products
          last = all_right (number_tests σ μ (e + 2) (e + 4 + n) (t + n) n) _ rest

          at_entry : (i : ℕ) → i < 4 + 2 * n → x (e + i) ≡ ι (point_entry n u v i)
          at_entry zero l = ap x (n-add-zero e) ∙ d.1
          at_entry (suc zero) l = product_checked 𝓕 σ known x (t + n + n) e e (e + 1) u u d.1 d.1 (all_first last)
          at_entry (suc (suc zero)) l = d'.1
          at_entry (suc (suc (suc zero))) l =
              product_checked 𝓕 σ known x (suc (t + n + n)) e (e + 2) (e + 3) u v d.1 d'.1 (all_second last)
          at_entry (suc (suc (suc (suc j)))) l =
              let shift : e + suc (suc (suc (suc j))) ≡ e + 4 + j = omega arith in
              ap x shift ∙ two_at 𝓕 σ known x n u v (e + 4) d.0 d'.0 j (omega arith)
      column_encoded (top n) w e t z = record { value = v; value_below = omega (arith, adds); column_is = at_entry }
        where
          b : ℕ
          b = bit_length n

          k : BitLength n
          k = bit_length_lem n w.0 w.1

          at : (i : ℕ) → i < 2 * b → x (suc e + i) ≡ ι (bits 𝓕 σ known x (suc e) i)
          at = bits_are 𝓕 σ known x (suc e) t (2 * b) (all_left (bit_tests σ μ (suc e) t (2 * b)) _ z)

          v : ℕ
          v = number_of (bits 𝓕 σ known x (suc e)) b

          r : ℕ
          r = number_of (bits 𝓕 σ known x (suc e + b)) b

          d : Digits 𝓕 σ known x v (suc e) b
          d = digits_of 𝓕 σ known x (suc e) b (λ i l. at i (omega arith))

          d' : Digits 𝓕 σ known x r (suc e + b) b
          d' = digits_of 𝓕 σ known x (suc e + b) b (second_bits 𝓕 σ known x (suc e) b at)

          sums : Zeros (number_test σ μ e (suc e) b ∷ rest_test σ μ n e (suc e + b) b ∷ [])
          sums = all_right (bit_tests σ μ (suc e) t (2 * b)) _ z

          v_is : x e ≡ ι v
          v_is = number_is 𝓕 σ known x v e (suc e) b d (all_first sums)

          adds : v + r ≡ n
          adds =
              let most : 2 ^ b ≤ 2 ^ 24 = pow-le-pow_right (omega arith) k.bits_most in
              zero_rest 𝓕 σ known n (v + r) (omega (arith, w.1)) (omega (arith, d.digits_below, d'.digits_below))
              (sym (rest_sum 𝓕 σ known x n v e r (suc e + b) b d' v_is) ∙ all_second sums)

          at_entry : (i : ℕ) → i < suc (2 * b) → x (e + i) ≡ ι (encoded (top n) v i)
          at_entry zero l = ap x (n-add-zero e) ∙ v_is
          at_entry (suc j) l =
              let shift : e + suc j ≡ suc e + j = omega arith in
              let left : r ≡ n - v = omega (arith, adds) in
              ap x shift ∙ two_at 𝓕 σ known x b v r (suc e) d d' j (omega arith) ∙ ap (λ k. ι (two_numbers b v k j)) left

      -- ---- a legal value has zero tests
      pub encoded_column : (c : Column) → InLimits c → (e t : ℕ) → Encoded x e c → Zeros (column_tests σ μ e t c)
      unfolding column_tests values_of encoded point_entry entries_of
      encoded_column yes_no w e t r = bits_zero 𝓕 σ known x e t 1 (λ i. r.value) (λ i l. r.value_below) r.column_is
      encoded_column (choice n) w e t r =
          all_append (bits_zero 𝓕 σ known x e t n (one_at r.value) (λ i l. one_at_below r.value i) r.column_is)
          (all∷ last all[])
        where
          last : sum_from σ μ (ι m) (λ i. x (e + i)) n ≡ 𝟘
          last =
              sum_is 𝓕 σ known x (ι m) (λ i. x (e + i)) (one_at r.value) n r.column_is
              ∙ ap₂ ◌⊕◌ known.minus_one_lem (ap ι (one_total r.value n r.value_below) ∙ ι_one 𝓕) ∙ neg_add 𝓕 𝟙
      encoded_column (number n) w e t r = checked_number 𝓕 σ known x r.value e (suc e) t n d first
        where
          d : Digits 𝓕 σ known x r.value (suc e) n
          d = record {
            digits_below = r.value_below;
            digit_is = λ i l. let shift : suc e + i ≡ e + suc i = omega arith in ap x shift ∙ r.column_is (suc i) (omega arith);
          }

          first : x e ≡ ι r.value
          first = ap x (sym (n-add-zero e)) ∙ r.column_is 0 (omega arith)
      encoded_column (point n) w e t r =
          all_append (checked_number 𝓕 σ known x u e (e + 4) t n both.0 first)
          (all_append (checked_number 𝓕 σ known x v (e + 2) (e + 4 + n) (t + n) n both.1 third)
          (all∷ (checked_product 𝓕 σ known x (t + n + n) e e (e + 1) u u first first (r.column_is 1 (omega arith)))
          (all∷ (checked_product 𝓕 σ known x (suc (t + n + n)) e (e + 2) (e + 3) u v first third (r.column_is 3 (omega arith))) all[])))
        where
          u : ℕ
          u = r.value % 2 ^ n

          v : ℕ
          v = r.value / 2 ^ n

          first : x e ≡ ι u
          first = ap x (sym (n-add-zero e)) ∙ r.column_is 0 (omega arith)

          third : x (e + 2) ≡ ι v
          third = r.column_is 2 (omega arith)

          at : (j : ℕ) → j < 2 * n → x (e + 4 + j) ≡ ι (two_numbers n u v j)
          at j l =
              let shift : e + 4 + j ≡ e + suc (suc (suc (suc j))) = omega arith in
              ap x shift ∙ r.column_is (suc (suc (suc (suc j)))) (omega arith)

          both : Digits 𝓕 σ known x u (e + 4) n × Digits 𝓕 σ known x v (e + 4 + n) n
          both = at_two 𝓕 σ known x n u v (e + 4) (x_below n r.value) (y_below n r.value r.value_below) at
      encoded_column (top n) w e t r =
          all_append
          (bits_zero 𝓕 σ known x (suc e) t (2 * b) (two_numbers b v (n - v)) (λ i l. two_below b v (n - v) i) at)
          (all∷ (is_number 𝓕 σ known x v e (suc e) b both.0 first) (all∷ last all[]))
        where
          b : ℕ
          b = bit_length n

          v : ℕ
          v = r.value

          k : BitLength n
          k = bit_length_lem n w.0 w.1

          at : (j : ℕ) → j < 2 * b → x (suc e + j) ≡ ι (two_numbers b v (n - v) j)
          at j l = let shift : suc e + j ≡ e + suc j = omega arith in ap x shift ∙ r.column_is (suc j) (omega arith)

          both : Digits 𝓕 σ known x v (suc e) b × Digits 𝓕 σ known x (n - v) (suc e + b) b
          both =
              at_two 𝓕 σ known x b v (n - v) (suc e) (omega (arith, r.value_below, k.below_power))
              (omega (arith, k.below_power)) at

          first : x e ≡ ι v
          first = ap x (sym (n-add-zero e)) ∙ r.column_is 0 (omega arith)

          last : rest_test σ μ n e (suc e + b) b ≡ 𝟘
          last =
              rest_sum 𝓕 σ known x n v e (n - v) (suc e + b) b both.1 first
              ∙ rest_zero 𝓕 σ known n (v + (n - v)) (omega (arith, w.1)) (omega (arith, r.value_below))
