-- The column that a number names, by its place: the number k + 1 names the column with k others before it, 0 none, and no number past
-- the last column one. Assumes nothing.
use mathlib.Core.Path.{◌≡◌, refl, sym, ◌∙◌}
use mathlib.Core.Bool.{false}
use mathlib.Core.List.{List, [], ◌∷◌}
use Prim.Native.Nat.{ℕ, zero, suc, ◌+◌, ◌-◌, ◌≤◌, ◌<◌}
use native.Mathlib.Numerals.{add-one}
use native.Mathlib.Omega.{arith}
use lib.ListN.{length, get_or, take}
use Rattle.std.specs.Prelude.{None}
use Rattle.rules.specs.Columns.{Column, yes_no, published_in}
use Rattle.rules.specs.Line.{is_point, names_point}
use Rattle.line.specs.Calls.{point_at, found_in}

names_at : (cs : List Column) (k : ℕ) → k < length cs → names_point (suc k) cs ≡ is_point (get_or cs k yes_no)
unfolding names_point
names_at [] k h = absurd (omega arith)
names_at (c ∷ cs) zero h = refl
names_at (c ∷ cs) (suc k) h = names_at cs k (omega arith)

names_past : (cs : List Column) (column : ℕ) → (column ≤ length cs → column ≡ 0) → names_point column cs ≡ false
unfolding names_point
names_past [] column h = refl
names_past (c ∷ cs) zero h = refl
names_past (c ∷ cs) (suc zero) h = let z : ◌≡◌ {A = ℕ} 1 0 = h (omega arith) in absurd (omega arith)
names_past (c ∷ cs) (suc (suc k)) h =
    names_past cs (suc k) (λ l. absurd (let z : suc (suc k) ≡ 0 = h (omega arith) in omega arith))

pub found_at : (cs : List Column) (k column : ℕ) → k < length cs → k + 1 ≡ column
    → point_at (get_or cs k yes_no) (published_in (take k cs)) ≡ found_in cs column
unfolding point_at found_in
found_at cs k column h e =
    let at : column ≡ suc k = sym e ∙ add-one k in
    let before : column - 1 ≡ k = omega arith in
    rw (before, at, names_at cs k h)

pub found_none : (cs : List Column) (column : ℕ) → (column ≤ length cs → column ≡ 0) → None ≡ found_in cs column
unfolding found_in
found_none cs column h = rw (names_past cs column h)
