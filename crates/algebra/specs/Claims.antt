-- What this crate proves, as statements: the proofs are in proofs/, under the names given here.
-- Assumes nothing.
use Rattle.std.specs.Prelude.{◌≡◌, ◌≢◌, Bool, true, List, ℕ, ◌+◌, ◌*◌, ◌≤◌, ◌<◌, max, T, length}
use Rattle.algebra.specs.Lists.{All, Distinct}
use Rattle.algebra.specs.Prime.{Prime, no_divisor}
use Rattle.algebra.specs.Ops.{Field}
use Rattle.algebra.specs.Polynomial.{PolyFn}
use Rattle.algebra.specs.Count.{count, count_pairs}

-- Trial division up to the square root finds primes: proofs/Trial
abbrev pub TrialDivision : Type 0
TrialDivision = (p k : ℕ) → 1 < p → p < (k + 2) * (k + 2) → T (no_divisor k p) → Prime p

module _ (𝓕 : Field) where
  open 𝓕.ops use {F, 𝟘}

  -- f is 0 everywhere
  abbrev pub Vanishes : (F → F) → Type 0
  Vanishes f = (x : F) → f x ≡ 𝟘

  -- the first n points differ from one another
  abbrev pub Apart : ℕ → (ℕ → F) → Type 0
  Apart n pt = (i j : ℕ) → i < n → j < n → i ≢ j → pt i ≢ pt j

  -- A polynomial function of degree at most n that is 0 at more than n points is 0 everywhere: proofs/Roots
  abbrev pub RootBound : Type 0
  RootBound = (n : ℕ) (f : F → F) (rs : List F) → PolyFn 𝓕 n f → n < length rs → Distinct rs
      → All (λ r. f r ≡ 𝟘) rs → Vanishes f

  -- One that is not 0 everywhere is 0 at no more than n of any points: proofs/Count
  abbrev pub RootCount : Type 0
  RootCount = (n : ℕ) (f : F → F) → PolyFn 𝓕 n f → (Vanishes f → ⊥) → (m : ℕ) (pt : ℕ → F) → Apart m pt
      → (t : ℕ → Bool) → ((i : ℕ) → i < m → t i ≡ true → f (pt i) ≡ 𝟘) → count m t ≤ n

  -- Of two polynomial functions, of degrees at most a and b, that are not both 0 everywhere, at most max (a m) (n b) of
  -- n times m pairs of points have 0 for both: proofs/Pairs
  abbrev pub PairBound : Type 0
  PairBound = (a b : ℕ) (f g : F → F) → PolyFn 𝓕 a f → PolyFn 𝓕 b g → (Vanishes f → Vanishes g → ⊥)
      → (n m : ℕ) (rr ss : ℕ → F) → Apart n rr → Apart m ss
      → (t : ℕ → ℕ → Bool) → ((i j : ℕ) → t i j ≡ true → (f (rr i) ≡ 𝟘) × (g (ss j) ≡ 𝟘))
      → count_pairs n m t ≤ max (a * m) (n * b)
