-- What follows from the laws of a commutative ring, and the set `ring`, by which `simp ring` proves an identity: it
-- multiplies out, sorts sums and products, and cancels x against - x at any distance up to six. Assumes nothing.
use mathlib.Core.Path.{◌≡◌, refl, sym, ◌∙◌, ap, ap₂, ◌≡⟨◌⟩◌, ◌∎}
use mathlib.Core.Logic.{◌⊎◌, inl, inr, ◌≢◌}
use Prim.Native.Nat.{ℕ, zero, suc, ◌+◌}
use native.Mathlib.Nat.{add-suc, add-zero as n-add-zero}
use Rattle.algebra.specs.Ops.{Field}

module _ (𝓕 : Field) where
  open 𝓕.ops use {F, ◌⊕◌, ◌⊗◌, neg, 𝟘, 𝟙, inv, ι}

  infixl 65 ◌⊕◌
  infixl 70 ◌⊗◌
  pub add_assoc : (a b c : F) → a ⊕ b ⊕ c ≡ a ⊕ (b ⊕ c)
  add_assoc = 𝓕.law_add_assoc

  pub add_comm : (a b : F) → a ⊕ b ≡ b ⊕ a
  add_comm = 𝓕.law_add_comm

  pub add-zero : (a : F) → a ⊕ 𝟘 ≡ a
  add-zero = 𝓕.law_add_zero

  pub add_neg : (a : F) → a ⊕ neg a ≡ 𝟘
  add_neg = 𝓕.law_add_neg

  pub mul_assoc : (a b c : F) → a ⊗ b ⊗ c ≡ a ⊗ (b ⊗ c)
  mul_assoc = 𝓕.law_mul_assoc

  pub mul_comm : (a b : F) → a ⊗ b ≡ b ⊗ a
  mul_comm = 𝓕.law_mul_comm

  pub mul-one : (a : F) → a ⊗ 𝟙 ≡ a
  mul-one = 𝓕.law_mul_one

  pub mul-add : (a b c : F) → a ⊗ (b ⊕ c) ≡ a ⊗ b ⊕ a ⊗ c
  mul-add = 𝓕.law_mul_add

  pub zero-add : (a : F) → 𝟘 ⊕ a ≡ a
  zero-add a = add_comm _ _ ∙ add-zero a

  pub one-mul : (a : F) → 𝟙 ⊗ a ≡ a
  one-mul a = mul_comm _ _ ∙ mul-one a

  pub add_mul : (a b c : F) → (a ⊕ b) ⊗ c ≡ a ⊗ c ⊕ b ⊗ c
  add_mul a b c = rw (mul_comm (a ⊕ b) c, mul-add, mul_comm c a, mul_comm c b)

  pub neg_add : (a : F) → neg a ⊕ a ≡ 𝟘
  neg_add a = add_comm _ _ ∙ add_neg a

  pub add_left_comm : (a b c : F) → a ⊕ (b ⊕ c) ≡ b ⊕ (a ⊕ c)
  add_left_comm a b c = sym (add_assoc a b c) ∙ ap (◌⊕ c) (add_comm a b) ∙ add_assoc b a c

  pub mul_left_comm : (a b c : F) → a ⊗ (b ⊗ c) ≡ b ⊗ (a ⊗ c)
  mul_left_comm a b c = sym (mul_assoc a b c) ∙ ap (◌⊗ c) (mul_comm a b) ∙ mul_assoc b a c

  pub ruleset ac = (add_assoc, add_comm, add_left_comm, mul_assoc, mul_comm, mul_left_comm)

  pub add_cancel : {a b c : F} → a ⊕ b ≡ a ⊕ c → b ≡ c
  add_cancel {a} {b} {c} e =
      b ≡⟨ sym (cut b) ⟩
      neg a ⊕ (a ⊕ b) ≡⟨ ap (neg a ⊕◌) e ⟩
      neg a ⊕ (a ⊕ c) ≡⟨ cut c ⟩
      c ∎
    where
      cut : (x : F) → neg a ⊕ (a ⊕ x) ≡ x
      cut x = rw (← add_assoc, neg_add, zero-add)

  pub mul-zero : (a : F) → a ⊗ 𝟘 ≡ 𝟘
  mul-zero a =
      add_cancel {a = a ⊗ 𝟘} (sym (mul-add a 𝟘 𝟘) ∙ ap (a ⊗◌) (add-zero 𝟘) ∙ sym (add-zero (a ⊗ 𝟘)))

  pub zero-mul : (a : F) → 𝟘 ⊗ a ≡ 𝟘
  zero-mul a = mul_comm _ _ ∙ mul-zero a

  pub neg_unique : {a b : F} → a ⊕ b ≡ 𝟘 → b ≡ neg a
  neg_unique {a} {b} e = add_cancel {a = a} (e ∙ sym (add_neg a))

  pub neg_neg : (a : F) → neg (neg a) ≡ a
  neg_neg a = sym (neg_unique (neg_add a))

  pub neg_zero : neg 𝟘 ≡ 𝟘
  neg_zero = sym (neg_unique (add-zero 𝟘))

  -- x and - x in a sorted sum, with other terms between them: a law for each distance, within the sum and at its end
  pub cancel₀ : (x z : F) → x ⊕ (neg x ⊕ z) ≡ z
  cancel₀ x z = sym (add_assoc x (neg x) z) ∙ ap (◌⊕ z) (add_neg x) ∙ zero-add z

  pub cancel₁ : (x a z : F) → x ⊕ (a ⊕ (neg x ⊕ z)) ≡ a ⊕ z
  cancel₁ x a z = add_left_comm x a _ ∙ ap (a ⊕◌) (cancel₀ x z)

  pub ends₁ : (x a : F) → x ⊕ (a ⊕ neg x) ≡ a
  ends₁ x a = add_left_comm x a _ ∙ ap (a ⊕◌) (add_neg x) ∙ add-zero a

  pub cancel₂ : (x a b z : F) → x ⊕ (a ⊕ (b ⊕ (neg x ⊕ z))) ≡ a ⊕ (b ⊕ z)
  cancel₂ x a b z = add_left_comm x a _ ∙ ap (a ⊕◌) (cancel₁ x b z)

  pub ends₂ : (x a b : F) → x ⊕ (a ⊕ (b ⊕ neg x)) ≡ a ⊕ b
  ends₂ x a b = add_left_comm x a _ ∙ ap (a ⊕◌) (ends₁ x b)

  pub cancel₃ : (x a b c z : F) → x ⊕ (a ⊕ (b ⊕ (c ⊕ (neg x ⊕ z)))) ≡ a ⊕ (b ⊕ (c ⊕ z))
  cancel₃ x a b c z = add_left_comm x a _ ∙ ap (a ⊕◌) (cancel₂ x b c z)

  pub ends₃ : (x a b c : F) → x ⊕ (a ⊕ (b ⊕ (c ⊕ neg x))) ≡ a ⊕ (b ⊕ c)
  ends₃ x a b c = add_left_comm x a _ ∙ ap (a ⊕◌) (ends₂ x b c)

  pub cancel₄ : (x a b c d z : F) → x ⊕ (a ⊕ (b ⊕ (c ⊕ (d ⊕ (neg x ⊕ z))))) ≡ a ⊕ (b ⊕ (c ⊕ (d ⊕ z)))
  cancel₄ x a b c d z = add_left_comm x a _ ∙ ap (a ⊕◌) (cancel₃ x b c d z)

  pub ends₄ : (x a b c d : F) → x ⊕ (a ⊕ (b ⊕ (c ⊕ (d ⊕ neg x)))) ≡ a ⊕ (b ⊕ (c ⊕ d))
  ends₄ x a b c d = add_left_comm x a _ ∙ ap (a ⊕◌) (ends₃ x b c d)

  pub cancel₅ : (x a b c d e z : F)
      → x ⊕ (a ⊕ (b ⊕ (c ⊕ (d ⊕ (e ⊕ (neg x ⊕ z)))))) ≡ a ⊕ (b ⊕ (c ⊕ (d ⊕ (e ⊕ z))))
  cancel₅ x a b c d e z = add_left_comm x a _ ∙ ap (a ⊕◌) (cancel₄ x b c d e z)

  pub ends₅ : (x a b c d e : F) → x ⊕ (a ⊕ (b ⊕ (c ⊕ (d ⊕ (e ⊕ neg x))))) ≡ a ⊕ (b ⊕ (c ⊕ (d ⊕ e)))
  ends₅ x a b c d e = add_left_comm x a _ ∙ ap (a ⊕◌) (ends₄ x b c d e)

  pub cancel₆ : (x a b c d e f z : F)
      → x ⊕ (a ⊕ (b ⊕ (c ⊕ (d ⊕ (e ⊕ (f ⊕ (neg x ⊕ z))))))) ≡ a ⊕ (b ⊕ (c ⊕ (d ⊕ (e ⊕ (f ⊕ z)))))
  cancel₆ x a b c d e f z = add_left_comm x a _ ∙ ap (a ⊕◌) (cancel₅ x b c d e f z)

  pub ends₆ : (x a b c d e f : F)
      → x ⊕ (a ⊕ (b ⊕ (c ⊕ (d ⊕ (e ⊕ (f ⊕ neg x)))))) ≡ a ⊕ (b ⊕ (c ⊕ (d ⊕ (e ⊕ f))))
  ends₆ x a b c d e f = add_left_comm x a _ ∙ ap (a ⊕◌) (ends₅ x b c d e f)

  pub ruleset cancel = (
    cancel₀,
    cancel₁,
    ends₁,
    cancel₂,
    ends₂,
    cancel₃,
    ends₃,
    cancel₄,
    ends₄,
    cancel₅,
    ends₅,
    cancel₆,
    ends₆,
  )

  pub neg_dist : (a b : F) → neg (a ⊕ b) ≡ neg a ⊕ neg b
  neg_dist a b = sym (neg_unique (simp (ac, cancel, add_neg)))

  pub neg_mul : (a b : F) → neg a ⊗ b ≡ neg (a ⊗ b)
  neg_mul a b = neg_unique (sym (add_mul a (neg a) b) ∙ ap (◌⊗ b) (add_neg a) ∙ zero-mul b)

  pub mul_neg : (a b : F) → a ⊗ neg b ≡ neg (a ⊗ b)
  mul_neg a b = mul_comm _ _ ∙ neg_mul b a ∙ ap neg (mul_comm b a)

  pub ruleset ring = (
    ac,
    cancel,
    add-zero,
    zero-add,
    mul-one,
    one-mul,
    mul-zero,
    zero-mul,
    add_neg,
    neg_add,
    mul-add,
    add_mul,
    neg_neg,
    neg_zero,
    neg_dist,
    neg_mul,
    mul_neg,
  )

  -- a difference that is 0
  pub sub_zero : {a b : F} → a ⊕ neg b ≡ 𝟘 → a ≡ b
  sub_zero {a} {b} e =
      a ≡⟨ (simp ring) ⟩
      b ⊕ (a ⊕ neg b) ≡⟨ ap (b ⊕◌) e ⟩
      b ⊕ 𝟘 ≡⟨ add-zero b ⟩
      b ∎

  -- a product of numbers that are not 0 is not 0
  pub mul_nonzero : {a b : F} → a ≢ 𝟘 → b ≢ 𝟘 → a ⊗ b ≢ 𝟘
  mul_nonzero {a} {b} na nb e = go (𝓕.no_zero_div a b e)
    where
      go : (a ≡ 𝟘) ⊎ (b ≡ 𝟘) → ⊥
      go (inl z) = na z
      go (inr z) = nb z

  -- inverses
  pub inv_unique : {a x : F} → a ⊗ x ≡ 𝟙 → inv a ≡ x
  inv_unique {a} {x} e =
      inv a ≡⟨ sym (mul-one _) ∙ ap (inv a ⊗◌) (sym e) ⟩
      inv a ⊗ (a ⊗ x) ≡⟨ sym (mul_assoc _ _ _) ∙ ap (◌⊗ x) (mul_comm _ _ ∙ 𝓕.mul_inv a na) ∙ one-mul x ⟩
      x ∎
    where
      na : a ≢ 𝟘
      na z = 𝓕.one_not_zero (sym e ∙ ap (◌⊗ x) z ∙ zero-mul x)

  swap_middle : (a b x y : F) → a ⊗ b ⊗ (x ⊗ y) ≡ (a ⊗ x) ⊗ (b ⊗ y)
  swap_middle a b x y = simp ring

  pub product_inverse : {a b x y : F} → a ⊗ x ≡ 𝟙 → b ⊗ y ≡ 𝟙 → a ⊗ b ⊗ (x ⊗ y) ≡ 𝟙
  product_inverse {a} {b} {x} {y} p q = swap_middle a b x y ∙ ap₂ ◌⊗◌ p q ∙ mul-one 𝟙

  -- the image of a sum of numbers
  pub ι_add : (a b : ℕ) → ι (a + b) ≡ ι a ⊕ ι b
  ι_add a zero = ap ι (n-add-zero a) ∙ sym (add-zero _) ∙ ap (ι a ⊕◌) (sym 𝓕.law_ι_zero)
  ι_add a (suc b) =
      ap ι (add-suc a b) ∙ 𝓕.law_ι_suc (a + b) ∙ ap (◌⊕ 𝟙) (ι_add a b) ∙ add_assoc _ _ _
      ∙ ap (ι a ⊕◌) (sym (𝓕.law_ι_suc b))
