-- Remainders of products. A number is its remainder and a multiple of the divisor, so a remainder may be taken of each
-- factor first. Assumes nothing.
use mathlib.Core.Path.{◌≡◌, refl, sym, ap, ◌∙◌}
use Prim.Native.Nat.{ℕ, ◌+◌, ◌*◌, ◌/◌, ◌%◌}
use native.Mathlib.Nat.{mod-mod, div-add-mod, mul_comm, add-mul-mod_self_left}
use native.Mathlib.Omega.{arith}

pub mul_mod : (a b p : ℕ) → (a * b) % p ≡ ((a % p) * (b % p)) % p
mul_mod a b p =
    let x = a % p in
    let y = b % p in
    let first : (p * (a / p) + x) * b ≡ a * b = ap (λ (t : ℕ). t * b) (div-add-mod a p) in
    let second : x * (p * (b / p) + y) ≡ x * b = ap (λ (t : ℕ). x * t) (div-add-mod b p) in
    let e : a * b ≡ x * y + p * (a / p * b + x * (b / p)) = omega arith in
    ap (λ (t : ℕ). t % p) e ∙ add-mul-mod_self_left (x * y) p (a / p * b + x * (b / p))

pub mul_mod_mod : (a b p : ℕ) → (a * (b % p)) % p ≡ (a * b) % p
mul_mod_mod a b p = mul_mod a (b % p) p ∙ ap (λ (t : ℕ). (a % p * t) % p) (mod-mod b p) ∙ sym (mul_mod a b p)

pub mod_mul_mod : (a b p : ℕ) → (a % p * b) % p ≡ (a * b) % p
mod_mul_mod a b p =
    ap (λ (t : ℕ). t % p) (mul_comm (a % p) b) ∙ mul_mod_mod b a p ∙ ap (λ (t : ℕ). t % p) (mul_comm b a)

-- two numbers that differ by multiples of p leave the same
pub same_rest : (p x y s t : ℕ) → x + p * s ≡ y + p * t → x % p ≡ y % p
same_rest p x y s t e =
    sym (add-mul-mod_self_left x p s) ∙ ap (λ (z : ℕ). z % p) e ∙ add-mul-mod_self_left y p t
