-- A number times a power of - 1 modulo the prime: itself at even powers, the prime less it at odd ones. The powers by
-- induction in steps of two. Assumes nothing.
use mathlib.Core.Path.{◌≡◌, refl, sym, ap, ◌∙◌}
use Prim.Native.Nat.{ℕ, zero, suc, ◌+◌, ◌-◌, ◌*◌, ◌/◌, ◌%◌, ◌<◌}
use native.Mathlib.Omega.{arith}
use Rattle.algebra.specs.Interpolation.{sign}
use Rattle.field.specs.Residues.{prime, residues}

sign_double : (m : ℕ) → sign residues (m + m) ≡ 1
unfolding sign
sign_double zero = refl
sign_double (suc m) =
    ap (sign residues) (let e : suc m + suc m ≡ suc (suc (m + m)) = omega arith in e)
    ∙ ap (λ t. residues.neg (residues.neg t)) (sign_double m)

sign_even : (k : ℕ) → k % 2 ≡ 0 → sign residues k ≡ 1
sign_even k h = ap (sign residues) (let e : k ≡ k / 2 + k / 2 = omega arith in e) ∙ sign_double (k / 2)

sign_odd : (k : ℕ) → (k % 2 ≡ 0 → ⊥) → sign residues k ≡ 2147483646
unfolding sign
sign_odd k h =
    ap (sign residues) (let e : k ≡ suc (k / 2 + k / 2) = omega arith in e) ∙ ap residues.neg (sign_double (k / 2))

pub signed_even : (k x : ℕ) → k % 2 ≡ 0 → x < prime → x ≡ residues.◌⊗◌ (sign residues k) x
signed_even k x h l =
    let e : x ≡ (1 * x) % prime = omega arith in
    e ∙ ap (λ t. residues.◌⊗◌ t x) (sym (sign_even k h))

pub signed_odd : (k x : ℕ) → (k % 2 ≡ 0 → ⊥) → x < prime → residues.neg x ≡ residues.◌⊗◌ (sign residues k) x
signed_odd k x h l =
    let e : (prime - x) % prime ≡ (2147483646 * x) % prime = omega arith in
    e ∙ ap (λ t. residues.◌⊗◌ t x) (sym (sign_odd k h))
