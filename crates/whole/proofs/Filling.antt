-- The whole list put together from its pieces. Assumes nothing.
use mathlib.Core.Path.{◌≡◌, sym, ap, ◌∙◌}
use mathlib.Core.List.{List, [], ◌∷◌, ◌++◌}
use Prim.Native.Nat.{ℕ, ◌≤◌}
use native.Mathlib.Nat.{zero-add}
use lib.ListN.{length}
use Rattle.algebra.specs.Lists.{tabulate}
use Rattle.algebra.proofs.Tables.{tabulate_get_d}
use Rattle.words.specs.Bytes.{splice}
use Rattle.words.proofs.Loops.{grow}
use Rattle.field.specs.Residues.{residues}
use Rattle.rules.specs.Settings.{document01}
use Rattle.rules.specs.Columns.{Column, entries_in}
use Rattle.rules.specs.Making.{whole}
use Rattle.walk.specs.Walks.{members}
use Rattle.whole.specs.Pieces.{h_values}

-- ---- four runs one after another, from the front
pub on : (s ys zs : List ℕ) (n : ℕ) → length ys ≡ n → n ≤ length s → splice (splice s 0 ys) n zs ≡ splice s 0 (ys ++ zs)
on s ys zs n e h =
    ap (λ (k : ℕ). splice (splice s 0 ys) k zs) (sym (zero-add n)) ∙ grow s 0 ys zs n e (rw zero-add h)

-- ---- the pieces of the whole list
pub pieces : (cs : List Column) (xs : List ℕ) → length xs ≡ entries_in cs → (u v a b : ℕ)
    → xs ++ ((u ∷ v ∷ []) ++ (h_values cs xs u v ++ (a ∷ b ∷ residues.◌⊗◌ a b ∷ []))) ≡ whole residues document01 cs (members xs) u v a b
unfolding whole h_values
pieces cs xs long u v a b =
    let t : tabulate (members xs) (entries_in cs) ≡ xs = rw (← long) (tabulate_get_d 0 xs) in
    rw t
