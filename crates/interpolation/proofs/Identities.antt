-- Identities of the field of residues are identities of numbers: a number below the prime is the value of an element, and
-- each operation keeps values. Assumes nothing.
use mathlib.Core.Path.{◌≡◌, sym, ◌∙◌, ap, ap₂}
use Prim.Native.Nat.{ℕ, ◌<◌}
use Rattle.algebra.specs.Ops.{minus}
use Rattle.field.specs.Residues.{prime, residues}
use Rattle.quotients.proofs.Numbers.{𝓕, values, back}

abbrev F : Type 0
F = 𝓕.ops.F

-- the element x has the value m
pub record Value (x : F) (m : ℕ) : Type 0 where
  pub is : values.φ x ≡ m

pub lift : {m : ℕ} → m < prime → Value (𝓕.ops.ι m) m
lift h = record { is = back h }

pub times : {x y : F} {m n : ℕ} → Value x m → Value y n → Value (𝓕.ops.◌⊗◌ x y) (residues.◌⊗◌ m n)
times p q = record { is = values.mul _ _ ∙ ap₂ residues.◌⊗◌ p.is q.is }

pub add : {x y : F} {m n : ℕ} → Value x m → Value y n → Value (𝓕.ops.◌⊕◌ x y) (residues.◌⊕◌ m n)
add p q = record { is = values.add _ _ ∙ ap₂ residues.◌⊕◌ p.is q.is }

pub less : {x y : F} {m n : ℕ} → Value x m → Value y n → Value (minus 𝓕.ops x y) (minus residues m n)
less p q = record {
  is = values.add _ _ ∙ ap₂ residues.◌⊕◌ p.is (values.opp _ ∙ ap residues.neg q.is);
}

-- elements that are equal have one value
pub same : {x y : F} {m n : ℕ} → Value x m → x ≡ y → Value y n → m ≡ n
same p e q = sym p.is ∙ ap values.φ e ∙ q.is
