-- Trial division finds primes: of two factors of p one is at most the square root. So 2147483647, which no number from 2
-- to 46341 divides, is a prime. Assumes nothing.
use mathlib.Core.Path.{◌≡◌, refl, subst}
use mathlib.Core.Logic.{◌≢◌}
use mathlib.Core.Bool.{Bool, true, false, ◌&&◌}
use Prim.Native.Nat.{ℕ, zero, suc, ◌+◌, ◌*◌, ◌/◌, ◌%◌, ◌≤◌, ◌<◌}
use native.Mathlib.Nat.{div-add-mod, mul-mod_left, mul-le-mul}
use native.Mathlib.Decide.{ℕ_discrete, dec_lt}
use native.Mathlib.Omega.{arith}
use lib.Dec.{T, ltb, ltb→lt, lit<}
use Rattle.algebra.specs.Prime.{Prime, no_divisor}
use Rattle.algebra.specs.Claims.{TrialDivision}

and_left : (a b : Bool) → T (a && b) → T a
and_left true b t = tt
and_left false b t = t

and_right : (a b : Bool) → T (a && b) → T b
and_right true b t = t
and_right false b t = absurd t

no_divisor_sound : (k p : ℕ) → T (no_divisor k p) → (d : ℕ) → 1 < d → d < k + 2 → p % d ≢ 0
no_divisor_sound zero p t d h l = absurd (omega arith)
no_divisor_sound (suc k) p t d h l =
    go (ℕ_discrete d (k + 2)) (no_divisor_sound k p (and_right (ltb 0 (p % (k + 2))) (no_divisor k p) t) d h)
  where
    go : Dec (d ≡ k + 2) → (d < k + 2 → p % d ≢ 0) → p % d ≢ 0
    go (yes e) ih =
        rw e
        (let x = ltb→lt 0 (p % (k + 2)) (and_left (ltb 0 (p % (k + 2))) (no_divisor k p) t) in omega arith)
    go (no ne) ih = ih (omega arith)

-- the other factor of p
cofactor : (d e p : ℕ) → d * e ≡ p → 1 < p → d < p → 1 < e
cofactor d zero p w h l = absurd (omega arith)
cofactor d (suc zero) p w h l = absurd (omega arith)
cofactor d (suc (suc e)) p w h l = omega arith

pub trial_division : TrialDivision
trial_division p k above big t = record { above = above; only = only }
  where
    only : (d : ℕ) → 1 < d → d < p → p % d ≢ 0
    only d h l z = go (dec_lt d (k + 2)) (dec_lt (p / d) (k + 2))
      where
        e : ℕ
        e = p / d

        whole : d * e ≡ p
        whole = omega (arith, div-add-mod p d)

        go : Dec (d < k + 2) → Dec (e < k + 2) → ⊥
        go (yes s) f = no_divisor_sound k p t d h s z
        go (no ns) (yes s) =
            no_divisor_sound k p t e (cofactor d e p whole above l) s
            (subst (λ (x : ℕ). x % e ≡ 0) whole (mul-mod_left d e))
        go (no ns) (no nt) =
            omega (arith, whole, mul-le-mul {n₁ = k + 2} {m₁ = k + 2} {n₂ = d} {m₂ = e} (omega arith) (omega arith))

pub prime_2147483647 : Prime 2147483647
prime_2147483647 = trial_division 2147483647 46340 (lit< tt) (lit< tt) tt
