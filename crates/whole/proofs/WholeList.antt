-- The whole list is a list of elements, as many as a share has. Assumes nothing.
use mathlib.Core.Path.{◌≡◌}
use mathlib.Core.List.{List}
use Prim.Native.Nat.{ℕ, ◌<◌}
use native.Mathlib.Nat.{mod-lt}
use lib.Dec.{lit<}
use lib.ListN.{length}
use Rattle.algebra.specs.Lists.{all[], all∷}
use Rattle.algebra.proofs.Members.{all_append, all_tabulate}
use Rattle.words.specs.Bytes.{elements_of}
use Rattle.field.specs.Residues.{prime, residues, Elements}
use Rattle.field.proofs.Below.{member_below}
use Rattle.rules.specs.Settings.{document01}
use Rattle.rules.specs.Columns.{Column, columns_of}
use Rattle.rules.specs.Judging.{share_size}
use Rattle.rules.specs.Making.{whole}
use Rattle.rules.proofs.Returns.Whole.{length_whole}
use Rattle.walk.specs.Walks.{members}
use Rattle.whole.specs.Pieces.{Legal, entries_from, whole_of}
use Rattle.whole.proofs.Legality.{entries_given}

elements_of_lem : (cs : List Column) (xs : List ℕ) (u v a b : ℕ) → Elements xs → u < prime → v < prime → a < prime → b < prime
    → Elements (whole residues document01 cs (members xs) u v a b)
unfolding whole
elements_of_lem cs xs u v a b e hu hv ha hb =
    all_append (all_tabulate (members xs) _ (λ i l. member_below xs i e))
    (all_append (all∷ hu (all∷ hv all[]))
    (all_append (all_tabulate _ _ (λ i l. mod-lt _ (lit< tt))) (all∷ ha (all∷ hb (all∷ (mod-lt _ (lit< tt)) all[])))))

pub length_made : (cs : List Column) (vs zs : List ℕ) → length (whole_of cs vs zs) ≡ share_size cs
length_made cs vs zs = length_whole residues document01 cs _ _ _ _ _

pub elements_made : {sheet values : List ℕ} (zs : List ℕ) → Legal sheet values → Elements zs
    → Elements (whole_of (columns_of sheet) (elements_of 4 values) zs)
elements_made {sheet} {values} zs l e =
    let below : (i : ℕ) → members zs i < prime = λ i. member_below zs i e in
    elements_of_lem (columns_of sheet) (entries_from sheet values) _ _ _ _ (entries_given l).elements (below 0) (below 1) (below 2) (below 3)
