-- Counts that a sheet's columns add up to: entries, published entries, multiplications, tests. Each is a sum over the
-- columns, so each law of such sums is said once, for any of them; the largest value is a maximum instead. The steps of the
-- other kinds follow from these counts, column by column. Assumes nothing.
use mathlib.Core.Path.{◌≡◌, refl, sym, ap, ◌∙◌}
use mathlib.Core.List.{List, [], ◌∷◌, ◌++◌}
use Prim.Native.Nat.{ℕ, ◌+◌, ◌*◌, ◌/◌, ◌≤◌, ◌<◌, max}
use native.Mathlib.Numerals.{add-one}
use native.Mathlib.Omega.{arith}
use lib.ListN.{length, get_or, take, drop, take-append-drop}
use lib.Seq.{take-suc}
use Rattle.rules.specs.Columns.{Column, yes_no, choice, number, top, point, entries_of, published_of, largest_of}
use Rattle.rules.specs.Columns.{entries_in, published_in, largest_in}
use Rattle.rules.specs.Circuit.{constants_of, adds_of, scales_of, gates_of, products_at, products_of, tests_of}
use Rattle.rules.specs.Circuit.{constants_in, adds_in, scales_in, gates_in, products_in, tests_in}

-- `In` adds up `of` over the columns
pub record Total (of : Column → ℕ) (In : List Column → ℕ) : Type 0 where
  pub nothing : In [] ≡ 0
  pub next : (c : Column) (cs : List Column) → In (c ∷ cs) ≡ of c + In cs

pub entries : Total entries_of entries_in
unfolding entries_in
entries = record { nothing = refl; next = λ c cs. refl }

pub published : Total published_of published_in
unfolding published_in
published = record { nothing = refl; next = λ c cs. refl }

pub constants : Total constants_of constants_in
unfolding constants_in
constants = record { nothing = refl; next = λ c cs. refl }

pub adds : Total adds_of adds_in
unfolding adds_in
adds = record { nothing = refl; next = λ c cs. refl }

pub scales : Total scales_of scales_in
unfolding scales_in
scales = record { nothing = refl; next = λ c cs. refl }

pub gates : Total gates_of gates_in
unfolding gates_in
gates = record { nothing = refl; next = λ c cs. refl }

pub products : Total products_of products_in
unfolding products_in
products = record { nothing = refl; next = λ c cs. refl }

pub tests : Total tests_of tests_in
unfolding tests_in
tests = record { nothing = refl; next = λ c cs. refl }

module _ {of : Column → ℕ} {In : List Column → ℕ} (t : Total of In) where
  pub total_append : (a b : List Column) → In (a ++ b) ≡ In a + In b
  total_append [] b = omega (arith, t.nothing)
  total_append (c ∷ a) b = omega (arith, t.next c (a ++ b), t.next c a, total_append a b)

  pub total_one : (c : Column) → In (c ∷ []) ≡ of c
  total_one c = omega (arith, t.next c [], t.nothing)

  -- one column more
  pub total_next : (cs : List Column) (k : ℕ) → k < length cs → In (take (k + 1) cs) ≡ In (take k cs) + of (get_or cs k yes_no)
  total_next cs k h =
      rw (add-one, take-suc cs k yes_no h)
      (omega (arith, total_append (take k cs) (get_or cs k yes_no ∷ []), total_one (get_or cs k yes_no)))

  -- a column and those before it come to no more than all
  pub total_most : (cs : List Column) (k : ℕ) → k < length cs → In (take k cs) + of (get_or cs k yes_no) ≤ In cs
  total_most cs k h =
      let e : In cs ≡ In (take (k + 1) cs) + In (drop (k + 1) cs)
      = ap In (sym (take-append-drop (k + 1) cs)) ∙ total_append (take (k + 1) cs) (drop (k + 1) cs) in
      omega (arith, e, total_next cs k h)

-- ---- the largest value
pub largest_append : (a b : List Column) → largest_in (a ++ b) ≡ max (largest_in a) (largest_in b)
unfolding largest_in
largest_append [] b = omega arith
largest_append (c ∷ a) b = omega (arith, largest_append a b)

pub largest_one : (c : Column) → largest_in (c ∷ []) ≡ largest_of c
unfolding largest_in
largest_one c = omega arith

-- ---- steps of other kinds
-- the products of a column, wherever its entries start
pub products_count : (e : ℕ) (c : Column) → length (products_at e c) ≡ products_of c
unfolding products_of products_at
products_count e yes_no = refl
products_count e (choice n) = refl
products_count e (number n) = refl
products_count e (top n) = refl
products_count e (point n) = refl

-- each multiplication that checks a bit has an addition before it, and the sums of a column have as many terms as the column has
-- tests, less one, or less two for a point: so for each two products there are three additions less; m are the products behind
column_adds : (c : Column) (m : ℕ) → adds_of c + 1 + 3 * ((products_of c + m) / 2) ≡ gates_of c + tests_of c + 3 * (m / 2)
unfolding adds_of gates_of products_of products_at tests_of
column_adds yes_no m = omega arith
column_adds (choice n) m = omega arith
column_adds (number n) m = omega arith
column_adds (top n) m = omega arith
column_adds (point n) m = omega arith

pub adds_are : (cs : List Column) → adds_in cs + length cs + 3 * (products_in cs / 2) ≡ gates_in cs + tests_in cs
unfolding adds_in gates_in products_in tests_in
adds_are [] = refl
adds_are (c ∷ cs) = omega (arith, column_adds c (products_in cs), adds_are cs)

-- each entry that is not published is a bit, with a product by its weight, and each that no bit check reads has a product by p - 1
column_scales : (c : Column) → scales_of c + published_of c + gates_of c ≡ entries_of c + entries_of c + products_of c
unfolding scales_of published_of gates_of entries_of products_of products_at
column_scales yes_no = refl
column_scales (choice n) = omega arith
column_scales (number n) = omega arith
column_scales (top n) = omega arith
column_scales (point n) = omega arith

pub scales_are : (cs : List Column) → scales_in cs + published_in cs + gates_in cs ≡ entries_in cs + entries_in cs + products_in cs
unfolding scales_in published_in gates_in entries_in products_in
scales_are [] = refl
scales_are (c ∷ cs) = omega (arith, column_scales c, scales_are cs)
