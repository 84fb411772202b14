-- Numbers with the operations modulo p: what antt computes with, and what the code's contracts cite.
-- Assumes nothing.
use Rattle.std.specs.Prelude.{true, false, ℕ, zero, suc, ◌+◌, ◌-◌, ◌*◌, ◌/◌, ◌%◌, leb}
use Rattle.algebra.specs.Ops.{Ops}

-- the inverse of a modulo p, by inverse 1 = 1 and inverse a = - (p / a) * inverse (p % a); k bounds the steps
unfoldable pub inverse_from : ℕ → ℕ → ℕ → ℕ
inverse_from p zero a = 1
inverse_from p (suc k) a = elim (leb a 1) [
  | true ↦ 1
  | false ↦ (p / a) * inverse_from p k (p % a) * (p - 1) % p
]

abbrev pub modulo : ℕ → Ops
modulo p = record {
  F = ℕ;
  ◌⊕◌ = λ a b. (a + b) % p;
  ◌⊗◌ = λ a b. (a * b) % p;
  neg = λ a. (p - a) % p;
  𝟘 = 0;
  𝟙 = 1;
  inv = λ a. inverse_from p a a % p;
  ι = λ n. n % p;
}
