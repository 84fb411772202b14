-- The left inputs of a sheet's multiplications, and what the right ones have past these and the constant, are elements where the
-- entries are. By induction on the columns. Assumes nothing.
use mathlib.Core.List.{List, [], ◌∷◌, map}
use Prim.Native.Nat.{ℕ, ◌+◌, ◌<◌}
use native.Mathlib.Nat.{mod-lt}
use lib.Dec.{lit<}
use Rattle.algebra.specs.Lists.{all[], all∷}
use Rattle.algebra.proofs.Members.{all_append}
use Rattle.field.specs.Residues.{prime, residues, Elements}
use Rattle.field.proofs.Below.{tabulate_below, member_below}
use Rattle.rules.specs.Settings.{document01}
use Rattle.rules.specs.Columns.{Column, entries_of}
use Rattle.rules.specs.Circuit.{Product, bits_of, products_at}
use Rattle.rules.specs.Walk.{column_lefts, walk_lefts}
use Rattle.rules.specs.Products.{product_extra, column_extras, walk_extras}
use Rattle.walk.specs.Walks.{plain, members}

mapped_below : (f : Product → ℕ) → ((p : Product) → f p < prime) → (ps : List Product) → Elements (map f ps)
mapped_below f h [] = all[]
mapped_below f h (p ∷ ps) = all∷ (h p) (mapped_below f h ps)

pub lefts_elements : (xs : List ℕ) → Elements xs → (cs : List Column) (e : ℕ)
    → Elements (walk_lefts document01 (plain 0 (members xs)) e cs)
unfolding walk_lefts column_lefts
lefts_elements xs h [] e = all[]
lefts_elements xs h (c ∷ cs) e =
    all_append
    (all_append (tabulate_below _ (bits_of c) (λ i. member_below xs _ h))
    (mapped_below (λ p. members xs p.left) (λ p. member_below xs p.left h) (products_at e c)))
    (lefts_elements xs h cs (e + entries_of c))

pub extras_elements : (k : ℕ) (x : ℕ → ℕ) (cs : List Column) (e : ℕ) → Elements (walk_extras residues k x e cs)
unfolding walk_extras column_extras product_extra
extras_elements k x [] e = all[]
extras_elements k x (c ∷ cs) e =
    all_append
    (all_append (tabulate_below (λ i. 0) (bits_of c) (λ i. lit< tt))
    (mapped_below (product_extra residues k x) (λ p. mod-lt _ (lit< tt)) (products_at e c)))
    (extras_elements k x cs (e + entries_of c))
