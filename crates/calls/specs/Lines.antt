-- pool_line, handed the closing messages of a pool whose servers have all closed: what it returned and left, for a number that names a
-- column of two numbers.
-- Assumes nothing.
use Rattle.std.specs.Prelude.{◌≡◌, ◌⊎◌, ◌↔◌, not, List, map, ℕ, ◌<◌, ℤ, length}
use Rattle.algebra.specs.Lists.{In, Distinct, Rearranged}
use Rattle.rules.specs.Settings.{document01}
use Rattle.rules.specs.Columns.{check}
use Rattle.rules.specs.Pools.{Pool, entered_at, KeepsForm}
use Rattle.rules.specs.Line.{Point, determinant, slope, intercept, is_zero, sums_of, SameX, point_in, Fitted}

module _ (𝓟 : Pool document01) (column : ℕ) where
  -- the points x, y of returns
  abbrev pub points_of : List ℕ → List Point
  points_of ids = map (point_in document01 𝓟 column) ids

  -- where each entered return keeps its form: it returned a, and left these numbers
  pub record LineOf (ids : List ℕ) (a : ℕ) (determinant' slope' intercept' : ℤ) : Type 0 where
    -- each x and y is below 2^b, D is never negative, and the numbers solve equation 1
    pub fitted : Fitted document01 𝓟 column ids
    -- it is refused 18 at most: exactly where all x are equal or there is no return
    pub number : a ≡ check (not (is_zero (determinant (sums_of (points_of ids))))) 18
    pub refused_when : (a ≡ 18) ↔ (SameX (points_of ids) ⊎ (length ids ≡ 0))
    -- else the three numbers are those of the points
    pub told : a ≡ 0
        → (determinant' ≡ determinant (sums_of (points_of ids)))
        × (slope' ≡ slope (sums_of (points_of ids)))
        × (intercept' ≡ intercept (sums_of (points_of ids)))

  pub record LineTold (determinant₀ slope₀ intercept₀ : ℤ) (a : ℕ) (determinant' slope' intercept' : ℤ) : Type 0 where
    -- the entered ids, the same at each server
    pub ids : List ℕ
    pub distinct : Distinct ids
    pub same_ids : (i : ℕ) → i < 𝓟.servers → Rearranged (entered_at document01 𝓟 i) ids
    -- at a refusal the three numbers keep what they held
    pub kept : (a ≡ 0 → ⊥) → (determinant' ≡ determinant₀) × (slope' ≡ slope₀) × (intercept' ≡ intercept₀)
    pub whole : ((id : ℕ) → In id ids → KeepsForm document01 𝓟 id) → LineOf ids a determinant' slope' intercept'
