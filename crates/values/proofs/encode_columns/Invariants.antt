-- `values::encode_columns` meets its contract. The loop's invariant: the columns before the walk's place stand encoded at the
-- front of `out`, up to that place's entry (`encoding_next`). Assumes nothing.
use mathlib.Core.Path.{◌≡◌}
use mathlib.Core.List.{List}
use Prim.Native.Nat.{ℕ}
use lib.ListN.{length, take}
use Rattle.words.specs.Bytes.{splice, elements_of}
use Rattle.rules.specs.Columns.{columns_of}
use Rattle.rules.specs.Values.{encoding}
use Rattle.values.proofs.encode_columns.Given as goal

-- the first k columns encoded at the front of d
abbrev pub up_to : List ℕ → List ℕ → List ℕ → ℕ → List ℕ
up_to s values d k = splice d 0 (encoding (take k (columns_of s)) (take k (elements_of 4 values)))

abbrev pub invariant-loop-place : goal.invariant-loop-place
invariant-loop-place l =
    (goal.iterator-loop-place).can_next l.place-iterator
    × (goal.iterator-loop-place).is_finite l.place-iterator
    × (l.place-iterator.sheet.now ≡ l.s)
    × (l.out ≡ up_to l.s l.values l.initial.out l.place-iterator.next.index)
    × (length l.out ≡ length l.initial.out)
