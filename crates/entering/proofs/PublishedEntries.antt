-- The published entries of column k are the first of its entries: where they stand among all published entries, and among all
-- entries. By induction on the columns. Assumes nothing.
use mathlib.Core.Path.{◌≡◌, ap, ◌∙◌}
use mathlib.Core.List.{List, [], ◌∷◌, ◌++◌}
use Prim.Native.Nat.{ℕ, zero, suc, ◌+◌, ◌<◌}
use native.Mathlib.Nat.{zero-add}
use native.Mathlib.Omega.{arith}
use lib.ListN.{length, get_or, take, get_or-append}
use lib.Seq.{get_or-append-add}
use Rattle.algebra.specs.Lists.{count_from}
use Rattle.rules.specs.Columns.{Column, yes_no, entries_of, published_of, entries_in, published_in, published_from}
use Rattle.rules.proofs.Circuits.Limits.{count_length}

count_at : (a n i : ℕ) → i < n → get_or (count_from a n) i 0 ≡ a + i
unfolding count_from
count_at a zero i h = absurd (omega arith)
count_at a (suc n) zero h = omega arith
count_at a (suc n) (suc i) h = count_at (suc a) n i (omega arith) ∙ omega arith

pub published_at : (cs : List Column) (a k i : ℕ) → k < length cs → i < published_of (get_or cs k yes_no)
    → get_or (published_from a cs) (published_in (take k cs) + i) 0 ≡ a + (entries_in (take k cs) + i)
unfolding published_from published_in entries_in
published_at [] a k i h l = absurd (omega arith)
published_at (c ∷ cs) a zero i h l =
    ap (λ n. get_or (count_from a (published_of c) ++ published_from (a + entries_of c) cs) n 0) (zero-add i)
    ∙ get_or-append (count_from a (published_of c)) _ 0 i (rw count_length l)
    ∙ count_at a (published_of c) i l
    ∙ omega arith
published_at (c ∷ cs) a (suc k) i h l =
    let e : published_of c + published_in (take k cs) + i ≡ length (count_from a (published_of c)) + (published_in (take k cs) + i)
    = omega (arith, count_length a (published_of c)) in
    ap (λ n. get_or (count_from a (published_of c) ++ published_from (a + entries_of c) cs) n 0) e
    ∙ get_or-append-add (count_from a (published_of c)) (published_from (a + entries_of c) cs) (published_in (take k cs) + i) 0
    ∙ published_at cs (a + entries_of c) k i (omega arith) l
    ∙ omega arith
