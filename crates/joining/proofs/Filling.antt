-- The loop that writes totals: after k turns the buffer holds the first k of them. One more is put where those before end
-- (`grow`). Assumes nothing.
use mathlib.Core.Path.{◌≡◌, sym, ap, ◌∙◌}
use mathlib.Core.List.{List, [], ◌++◌}
use Prim.Native.Nat.{ℕ, ◌+◌, ◌*◌, ◌≤◌, ◌<◌}
use native.Mathlib.Nat.{zero-add}
use native.Mathlib.Numerals.{add-one}
use native.Mathlib.Omega.{arith}
use lib.ListN.{length}
use Rattle.algebra.specs.Lists.{tabulate}
use Rattle.algebra.proofs.Tables.{length_tabulate, tabulate_next}
use Rattle.words.specs.Bytes.{bytes_of, bytes_of_all, splice}
use Rattle.words.proofs.Elements.{length_bytes_all, bytes_all_append, bytes_all_one}
use Rattle.words.proofs.Loops.{grow}
use Rattle.elements.proofs.Loops.{write_none}

-- the bytes of the first k numbers of a rule
abbrev pub first_of : (ℕ → ℕ) → ℕ → List ℕ
first_of f k = bytes_of_all 4 (tabulate f k)

module _ (f : ℕ → ℕ) where
  pub length_first : (k : ℕ) → length (first_of f k) ≡ 4 * k
  length_first k = length_bytes_all 4 (tabulate f k) ∙ ap (λ (n : ℕ). 4 * n) (length_tabulate f k)

  first_next : (k : ℕ) → first_of f (k + 1) ≡ first_of f k ++ bytes_of 4 (f k)
  first_next k = rw (add-one, tabulate_next f k, bytes_all_append, bytes_all_one)

  pub fill_start : (out : List ℕ) → out ≡ splice out 0 (first_of f 0)
  unfolding tabulate
  fill_start out = write_none out 0 4 []

  pub fill_turn : (out : List ℕ) (n k : ℕ) → 4 * n ≤ length out → k < n
      → splice (splice out 0 (first_of f k)) (4 * k) (bytes_of 4 (f k)) ≡ splice out 0 (first_of f (k + 1))
  fill_turn out n k room h =
      (rw zero-add at (grow out 0 (first_of f k) (bytes_of 4 (f k)) (4 * k) (length_first k) (omega arith)))
      ∙ ap (splice out 0) (sym (first_next k))
