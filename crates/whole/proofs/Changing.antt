-- A loop that changes a list in place, member after member: after i turns the first i are those of a rule f, the others what they
-- were. Assumes nothing.
use mathlib.Core.Path.{◌≡◌}
use mathlib.Core.List.{List}
use Prim.Native.Nat.{ℕ, ◌+◌, ◌≤◌, ◌<◌}
use lib.ListN.{length, get_or, set}
use Rattle.algebra.specs.Lists.{tabulate}
use Rattle.walk.proofs.Filling.{Filling, start, turn, finish}
use Rattle.prover.proofs.InPlace.{unfilled}

module _ (f : ℕ → ℕ) where
  abbrev pub Changed : List ℕ → List ℕ → ℕ → Type 0
  Changed before now i = Filling f before now i

  pub none_changed : (d : List ℕ) → Changed d d 0
  none_changed d = start f d

  module _ {d l : List ℕ} {i : ℕ} (w : Filling f d l i) where
    -- the next member is what it was
    pub unchanged : get_or l i 0 ≡ get_or d i 0
    unchanged = unfilled f w

    pub one_changed : (v : ℕ) → i < length d → v ≡ f i → Changed d (set l i v) (i + 1)
    one_changed v h e = turn f v w h e

    pub all_changed : length d ≤ i → l ≡ tabulate f (length d)
    all_changed h = finish f w h
