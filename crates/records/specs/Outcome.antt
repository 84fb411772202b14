-- A result or the number of a refusal; and checks in an order, of which the first refusal counts. Assumes nothing.
use Rattle.std.specs.Prelude.{List, [], ◌∷◌, ℕ, zero, suc}

-- a result, or the number of a refusal
pub data Outcome (A : Type 0) : Type 0 where
  ok : A → Outcome A
  refused : ℕ → Outcome A

-- the first of two numbers that is not 0; 0 is no refusal
unfoldable pub or_else : ℕ → ℕ → ℕ
or_else zero b = b
or_else (suc a) b = suc a

-- the first of a list of numbers that is not 0
unfoldable pub first : List ℕ → ℕ
first [] = 0
first (a ∷ s) = or_else a (first s)
