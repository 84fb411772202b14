-- Inverses modulo a prime, and Euclid's lemma. From p = (p / a) a + p % a, an inverse of p % a gives one of a; p % a is
-- below a and, p being a prime, not 0, so this ends at 1. Assumes nothing.
use mathlib.Core.Path.{◌≡◌, refl, sym, ap, ◌∙◌}
use mathlib.Core.Logic.{◌≢◌, ◌⊎◌, inl, inr}
use mathlib.Core.Bool.{Bool, true, false}
use Prim.Native.Nat.{ℕ, zero, suc, ◌+◌, ◌-◌, ◌*◌, ◌/◌, ◌%◌, ◌≤◌, ◌<◌}
use native.Mathlib.Nat.{mod-lt, mod-mod, mod-eq_of_lt, zero-mod, div-add-mod}
use native.Mathlib.Decide.{ℕ_discrete}
use native.Mathlib.Omega.{arith}
use borrow.Author.Tests.{leb-true, leb-false}
use lib.Dec.{leb}
use Rattle.algebra.specs.Prime.{Prime}
use Rattle.algebra.specs.Modulo.{inverse_from}
use Rattle.algebra.proofs.Remainders.{mul_mod, mul_mod_mod, mod_mul_mod, same_rest}

-- an inverse c of p % a gives the inverse (p / a) c (p - 1) of a
pub inverse_step : (p a c : ℕ) → 1 < p → ((p % a) * c) % p ≡ 1 → (a * ((p / a) * c * (p - 1))) % p ≡ 1
inverse_step p a c h e =
    let q = p / a in
    let r = p % a in
    let t = (r * c) / p in
    let m = p - 1 in
    let f : a * q + r ≡ p = div-add-mod p a in
    let g : p * t + 1 ≡ r * c = ap (λ (z : ℕ). p * t + z) (sym e) ∙ div-add-mod (r * c) p in
    let pm : p ≡ m + 1 = omega arith in
    let fm : (a * q + r) * (c * m) ≡ p * (c * m) = ap (λ (z : ℕ). z * (c * m)) f in
    let gm : (p * t + 1) * m ≡ r * c * m = ap (λ (z : ℕ). z * m) g in
    let x : a * (q * c * m) + p * (1 + t * m) ≡ 1 + p * (c * m) = omega arith in
    same_rest p (a * (q * c * m)) 1 (1 + t * m) (c * m) x ∙ mod-eq_of_lt h

module _ (p : ℕ) (prime : Prime p) where
  -- the inverse that is computed is one
  pub inverse_right : (k a : ℕ) → a ≤ k → 0 < a → a < p → (a * inverse_from p k a) % p ≡ 1
  unfolding inverse_from
  inverse_right zero a le pos small = absurd (omega arith)
  inverse_right (suc k) a le pos small = go (leb a 1) refl (inverse_right k (p % a))
    where
      Next : Bool → ℕ
      Next b = elim b [ true ↦ 1 | false ↦ (p / a) * inverse_from p k (p % a) * (p - 1) % p ]

      go : (b : Bool) → leb a 1 ≡ b
          → (p % a ≤ k → 0 < p % a → p % a < p → ((p % a) * inverse_from p k (p % a)) % p ≡ 1) → (a * Next b) % p ≡ 1
      go true e ih =
          let one : a ≡ 1 = omega (arith, leb-true a 1 e) in
          ap (λ (t : ℕ). (t * 1) % p) one ∙ mod-eq_of_lt prime.above
      go false e ih =
          let big : 1 < a = leb-false a 1 e in
          let lt : p % a < a = mod-lt p pos in
          let nz : p % a ≢ 0 = prime.only a big small in
          let right : ((p % a) * inverse_from p k (p % a)) % p ≡ 1 = ih (omega arith) (omega arith) (omega arith) in
          mul_mod_mod a ((p / a) * inverse_from p k (p % a) * (p - 1)) p
          ∙ inverse_step p a (inverse_from p k (p % a)) prime.above right

-- Euclid's lemma: a prime that divides a product divides a factor
pub euclid : (p : ℕ) → Prime p → (a b : ℕ) → (a * b) % p ≡ 0 → (a % p ≡ 0) ⊎ (b % p ≡ 0)
euclid p prime a b e = go (ℕ_discrete (a % p) 0)
  where
    go : Dec (a % p ≡ 0) → (a % p ≡ 0) ⊎ (b % p ≡ 0)
    go (yes z) = inl z
    go (no nz) =
        let above : 1 < p = prime.above in
        let x = a % p in
        let c = inverse_from p x x in
        let lt : x < p = mod-lt a (omega arith) in
        let right : (x * c) % p ≡ 1 = inverse_right p prime x x (omega arith) (omega arith) lt in
        let one : (b * (x * c)) % p ≡ b % p =
        mul_mod b (x * c) p ∙ ap (λ (z : ℕ). (b % p * z) % p) right ∙ ap (λ (z : ℕ). z % p) (omega arith) ∙ mod-mod b p in
        let none : (x * b * c) % p ≡ 0 =
        mul_mod (x * b) c p ∙ ap (λ (z : ℕ). (z * (c % p)) % p) (mod_mul_mod a b p ∙ e)
        ∙ ap (λ (z : ℕ). z % p) (omega arith) ∙ zero-mod p in
        inr (sym one ∙ ap (λ (z : ℕ). z % p) (omega arith) ∙ none)
