-- Primes.
-- Assumes nothing.
use Rattle.std.specs.Prelude.{◌≢◌, Bool, true, ◌&&◌, ℕ, zero, suc, ◌+◌, ◌%◌, ◌<◌, ltb}

-- p is a prime: it is above 1, and no number strictly between 1 and p divides it
pub record Prime (p : ℕ) : Type 0 where
  pub above : 1 < p
  pub only : (d : ℕ) → 1 < d → d < p → p % d ≢ 0

-- trial division: none of 2, .., k + 1 divides p. A number below (k + 2) * (k + 2) that passes is a prime
abbrev pub no_divisor : ℕ → ℕ → Bool
no_divisor zero p = true
no_divisor (suc k) p = ltb 0 (p % (k + 2)) && no_divisor k p
