-- An exported kernel takes any arguments. It is done and answers 0 where they fit, and else answers 1 and changes nothing.
-- Assumes nothing.
use Rattle.std.specs.Prelude.{◌≡◌, Bool, cond, ◌&&◌, List, ℕ, Result, Ok, Err, eqb, leb, ltb, length}
use Rattle.field.specs.Residues.{prime}
use Rattle.dot.specs.Lengths.{longest}

-- what is left of `before` by a kernel that computes `result`
pub record Outcome {A : Type 0} (fits : Bool) (result before : A) (answer : ℕ) (after : A) : Type 0 where
  pub answers : answer ≡ cond fits 0 1
  pub leaves : after ≡ cond fits result before

-- the number of an answer
abbrev pub answer_of : {A E : Type 0} → Result A E → ℕ
answer_of (Ok a) = 0
answer_of (Err e) = 1

abbrev pub inner_fits : List ℕ → List ℕ → Bool
inner_fits a b = eqb (length a) (length b) && leb (length a) longest

abbrev pub point_fits : ℕ → List ℕ → Bool
point_fits x out = ltb x prime && leb (length out) prime

abbrev pub powers_fit : ℕ → Bool
powers_fit s = ltb s prime
