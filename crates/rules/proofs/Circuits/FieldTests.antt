-- What a test that is zero says of its numbers in a field: a bit check of its entry, a choice's test of the sum of its options, a
-- number's of its value, a top's second of what the value and its rest add up to. Assumes nothing.
use mathlib.Core.Path.{◌≡◌, refl, sym, ◌∙◌, ap, ap₂}
use mathlib.Core.Logic.{◌⊎◌, inl, inr}
use mathlib.Core.Bool.{Bool, cond, true, false}
use Prim.Native.Nat.{ℕ, zero, suc, ◌+◌, ◌-◌, ◌*◌, ◌≤◌, ◌<◌}
use native.Mathlib.Nat.{mul-zero as n-mul-zero, mul-suc as n-mul-suc}
use native.Mathlib.Omega.{arith}
use Rattle.algebra.specs.Ops.{Field}
use Rattle.algebra.proofs.Ring.{ring, zero-add, add_neg, neg_add, mul-zero, zero-mul, mul-one, mul-add}
use Rattle.algebra.proofs.Ring.{sub_zero, add_cancel, ι_add}
use Rattle.rules.specs.Settings.{Setting}
use Rattle.rules.proofs.Circuits.Digits.{flag_below}

abbrev is_yes : {A : Type 0} → Dec A → Bool
is_yes (yes a) = true
is_yes (no n) = false

module _ (𝓕 : Field) where
  open 𝓕.ops use {F, ◌⊕◌, ◌⊗◌, neg, 𝟘, 𝟙, ι}

  infixl 65 ◌⊕◌
  infixl 70 ◌⊗◌
  pub ι_one : ι 1 ≡ 𝟙
  ι_one = 𝓕.law_ι_suc 0 ∙ ap (◌⊕ 𝟙) 𝓕.law_ι_zero ∙ zero-add 𝓕 𝟙

  pub ι_mul : (a b : ℕ) → ι (a * b) ≡ ι a ⊗ ι b
  ι_mul a zero = ap ι (n-mul-zero a) ∙ 𝓕.law_ι_zero ∙ sym (mul-zero 𝓕 (ι a)) ∙ ap (ι a ⊗◌) (sym 𝓕.law_ι_zero)
  ι_mul a (suc b) =
      ap ι (n-mul-suc a b) ∙ ι_add 𝓕 (a * b) a ∙ ap₂ ◌⊕◌ (ι_mul a b) (sym (mul-one 𝓕 (ι a)))
      ∙ sym (mul-add 𝓕 (ι a) (ι b) 𝟙) ∙ ap (ι a ⊗◌) (sym (𝓕.law_ι_suc b))

  -- the bit that an entry is, if it is one
  pub bit_of : F → ℕ
  bit_of a = cond (is_yes (𝓕.dec a 𝟙)) 1 0

  pub bit_below : (a : F) → bit_of a < 2
  unfolding bit_of
  bit_below a = flag_below (is_yes (𝓕.dec a 𝟙))

  -- p - 1 is - 1, and numbers below 2^25 differ
  pub record Known (σ : Setting) : Type 0 where
    pub large : 33554432 < σ.modulus
    pub minus_one_lem : ι (σ.modulus - 1) ≡ neg 𝟙
    pub small : (a b : ℕ) → a < 33554432 → b < 33554432 → ι a ≡ ι b → a ≡ b

  module _ (σ : Setting) (known : Known σ) where
    abbrev m : ℕ
    m = σ.modulus - 1

    -- ---- one bit check
    pub bit_zero : (a : F) → a ⊗ (a ⊕ ι m) ≡ 𝟘 → a ≡ ι (bit_of a)
    unfolding bit_of
    bit_zero a e = go (𝓕.dec a 𝟙) (𝓕.no_zero_div a (a ⊕ ι m) e)
      where
        go : (d : Dec (a ≡ 𝟙)) → (a ≡ 𝟘) ⊎ (a ⊕ ι m ≡ 𝟘) → a ≡ ι (cond (is_yes d) 1 0)
        go (yes q) z = q ∙ sym ι_one
        go (no q) (inl z) = z ∙ sym 𝓕.law_ι_zero
        go (no q) (inr z) = absurd (q (sub_zero 𝓕 (ap (a ⊕◌) (sym known.minus_one_lem) ∙ z)))

    pub zero_bit : (a : F) (d : ℕ) → d < 2 → a ≡ ι d → a ⊗ (a ⊕ ι m) ≡ 𝟘
    zero_bit a zero l e = ap (◌⊗ (a ⊕ ι m)) (e ∙ 𝓕.law_ι_zero) ∙ zero-mul 𝓕 _
    zero_bit a (suc zero) l e = ap (a ⊗◌) (ap₂ ◌⊕◌ (e ∙ ι_one) known.minus_one_lem ∙ add_neg 𝓕 𝟙) ∙ mul-zero 𝓕 a
    zero_bit a (suc (suc d)) l e = absurd (omega arith)

    -- ---- the last test of a choice and of a number
    id_choice : (b : F) → neg 𝟙 ⊕ b ≡ b ⊕ neg 𝟙
    id_choice b = simp ring

    pub choice_one : (k : ℕ) → k ≤ 64 → ι m ⊕ ι k ≡ 𝟘 → k ≡ 1
    choice_one k h e =
        known.small k 1 (omega arith) (omega arith)
        (sub_zero 𝓕 (sym (id_choice (ι k)) ∙ ap (◌⊕ ι k) (sym known.minus_one_lem) ∙ e) ∙ sym ι_one)

    id_number : (v k : F) → v ⊗ neg 𝟙 ⊕ k ≡ k ⊕ neg v
    id_number v k = simp ring

    pub number_value : (v k : F) → v ⊗ ι m ⊕ k ≡ 𝟘 → v ≡ k
    number_value v k e = sym (sub_zero 𝓕 (sym (id_number v k) ∙ ap (λ t. v ⊗ t ⊕ k) (sym known.minus_one_lem) ∙ e))

    pub value_number : (v : F) → v ⊗ ι m ⊕ v ≡ 𝟘
    value_number v = ap (λ t. v ⊗ t ⊕ v) known.minus_one_lem ∙ id_number v v ∙ add_neg 𝓕 v

    -- ---- a product
    id_product : (v k : F) → k ⊕ v ⊗ neg 𝟙 ≡ k ⊕ neg v
    id_product v k = simp ring

    pub product_value : (v k : F) → k ⊕ v ⊗ ι m ≡ 𝟘 → v ≡ k
    product_value v k e = sym (sub_zero 𝓕 (sym (id_product v k) ∙ ap (λ t. k ⊕ v ⊗ t) (sym known.minus_one_lem) ∙ e))

    pub value_product : (v : F) → v ⊕ v ⊗ ι m ≡ 𝟘
    value_product v = ap (λ t. v ⊕ v ⊗ t) known.minus_one_lem ∙ id_product v v ∙ add_neg 𝓕 v

    -- ---- the second sum of a top
    modulus_zero : ι σ.modulus ≡ 𝟘
    modulus_zero =
        let next : σ.modulus ≡ suc m = omega (arith, known.large) in
        ap ι next ∙ 𝓕.law_ι_suc m ∙ ap (◌⊕ 𝟙) known.minus_one_lem ∙ neg_add 𝓕 𝟙

    pub rest_zero : (n k : ℕ) → n ≤ 33554432 → k ≡ n → ι (σ.modulus - n) ⊕ ι k ≡ 𝟘
    rest_zero n k h e =
        let whole : σ.modulus - n + k ≡ σ.modulus = omega (arith, known.large) in
        sym (ι_add 𝓕 (σ.modulus - n) k) ∙ ap ι whole ∙ modulus_zero

    pub zero_rest : (n k : ℕ) → n < 33554432 → k < 33554432 → ι (σ.modulus - n) ⊕ ι k ≡ 𝟘 → k ≡ n
    zero_rest n k h l e =
        known.small k n l h (add_cancel 𝓕 {a = ι (σ.modulus - n)} (e ∙ sym (rest_zero n n (omega arith) refl)))
