-- The operations of a field as a record. Definitions take these, and so can be run on numbers modulo p and reasoned
-- about in a field. The laws are the record `Field`.
-- Assumes nothing.
use Rattle.std.specs.Prelude.{◌≡◌, ◌⊎◌, ◌≢◌, ℕ, suc}

pub record Ops : Type 1 where
  pub F : Type 0
  pub ◌⊕◌ : F → F → F
  pub ◌⊗◌ : F → F → F
  pub neg : F → F
  pub 𝟘 : F
  pub 𝟙 : F
  pub inv : F → F
  -- the image of a number
  pub ι : ℕ → F

-- a - b
abbrev pub minus : (O : Ops) → O.F → O.F → O.F
minus O a b = O.◌⊕◌ a (O.neg b)

-- A field with decidable equality
pub record Field : Type 1 where
  pub ops : Ops
  pub law_add_assoc : (a b c : ops.F) → ops.◌⊕◌ (ops.◌⊕◌ a b) c ≡ ops.◌⊕◌ a (ops.◌⊕◌ b c)
  pub law_add_comm : (a b : ops.F) → ops.◌⊕◌ a b ≡ ops.◌⊕◌ b a
  pub law_add_zero : (a : ops.F) → ops.◌⊕◌ a ops.𝟘 ≡ a
  pub law_add_neg : (a : ops.F) → ops.◌⊕◌ a (ops.neg a) ≡ ops.𝟘
  pub law_mul_assoc : (a b c : ops.F) → ops.◌⊗◌ (ops.◌⊗◌ a b) c ≡ ops.◌⊗◌ a (ops.◌⊗◌ b c)
  pub law_mul_comm : (a b : ops.F) → ops.◌⊗◌ a b ≡ ops.◌⊗◌ b a
  pub law_mul_one : (a : ops.F) → ops.◌⊗◌ a ops.𝟙 ≡ a
  pub law_mul_add : (a b c : ops.F) → ops.◌⊗◌ a (ops.◌⊕◌ b c) ≡ ops.◌⊕◌ (ops.◌⊗◌ a b) (ops.◌⊗◌ a c)
  pub law_ι_zero : ops.ι 0 ≡ ops.𝟘
  pub law_ι_suc : (n : ℕ) → ops.ι (suc n) ≡ ops.◌⊕◌ (ops.ι n) ops.𝟙
  pub one_not_zero : ops.𝟙 ≢ ops.𝟘
  pub dec : Discrete ops.F
  pub no_zero_div : (a b : ops.F) → ops.◌⊗◌ a b ≡ ops.𝟘 → (a ≡ ops.𝟘) ⊎ (b ≡ ops.𝟘)
  pub mul_inv : (a : ops.F) → a ≢ ops.𝟘 → ops.◌⊗◌ a (ops.inv a) ≡ ops.𝟙

-- A map that keeps the operations
pub record Hom (A B : Ops) : Type 0 where
  pub φ : A.F → B.F
  pub add : (a b : A.F) → φ (A.◌⊕◌ a b) ≡ B.◌⊕◌ (φ a) (φ b)
  pub mul : (a b : A.F) → φ (A.◌⊗◌ a b) ≡ B.◌⊗◌ (φ a) (φ b)
  pub opp : (a : A.F) → φ (A.neg a) ≡ B.neg (φ a)
  pub nil : φ A.𝟘 ≡ B.𝟘
  pub one : φ A.𝟙 ≡ B.𝟙
  pub rec : (a : A.F) → φ (A.inv a) ≡ B.inv (φ a)
  pub num : (n : ℕ) → φ (A.ι n) ≡ B.ι n
