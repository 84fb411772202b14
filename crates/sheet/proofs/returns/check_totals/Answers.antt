-- `sheet::returns::check_totals` meets its contract. The loop's invariant: the answer is that of the columns from the
-- walk's place on (`every_next`). Assumes nothing.
use mathlib.Core.Path.{◌≡◌, refl, ap, ◌∙◌}
use mathlib.Core.Bool.{Bool, true, false}
use mathlib.Core.List.{List}
use Prim.Native.Nat.{ℕ, ◌*◌, ◌≤◌, ◌<◌}
use native.Mathlib.Nat.{mul-le-mul_left}
use native.Mathlib.Omega.{arith}
use borrow.Author.Tests.{lt-ltb, le-ltb}
use lib.Dec.{ltb}
use lib.ListN.{get_or, drop}
use Rattle.rules.specs.Settings.{document01}
use Rattle.rules.specs.Columns.{Column, yes_no, largest_of, columns_of, totals_fit}
use Rattle.columns.specs.Kinds.{from_code}
use Rattle.columns.proofs.Taken.{largest_most}
use Rattle.sheet.specs.declared.cursor.Cursor.{Cursor}
use Rattle.sheet.specs.declared.cursor.Place.{Place}
use Rattle.sheet.specs.Walk.{Passes}
use Rattle.sheet.proofs.Walks.{next_index, column_seen, column_limited, every_next, every_end, passed, ended}
use Rattle.sheet.proofs.returns.check_totals.Goals as goal
use Rattle.sheet.proofs.returns.check_totals.Goals.{After-from-in-loop-place}

-- whether the totals of a column fit
abbrev fits : ℕ → Column → Bool
fits n c = ltb (n * largest_of c) 2147483647

-- the column passed, whose largest value is m
module _
    {s : List ℕ} {c : Cursor} {p : Place} {c' : Cursor} (n : ℕ) (h : Passes s c p c')
    (m : ℕ) (m-is : m ≡ largest_of (from_code p.column))
  where
    largest_is : m ≡ largest_of (get_or (columns_of s) c.index yes_no)
    largest_is = m-is ∙ ap largest_of (column_seen h.stands _ h.step_is)

    not_fits : 2147483647 ≤ n * m → totals_fit document01 n (drop c.index (columns_of s)) ≡ false
    unfolding totals_fit
    not_fits l =
        let f : fits n (get_or (columns_of s) c.index yes_no) ≡ false = rw (← largest_is) (le-ltb (n * m) 2147483647 l) in
        every_next (fits n) yes_no (columns_of s) c.index h.stands.within ∙ rw f

    fits_on : n * m < 2147483647
        → totals_fit document01 n (drop c.index (columns_of s)) ≡ totals_fit document01 n (drop c'.index (columns_of s))
    unfolding totals_fit
    fits_on l =
        let f : fits n (get_or (columns_of s) c.index yes_no) ≡ true = rw (← largest_is) (lt-ltb (n * m) 2147483647 l) in
        every_next (fits n) yes_no (columns_of s) c.index h.stands.within ∙ rw (f, next_index h.stands _ h.step_is)

total_is : (c : After-from-in-loop-place) → c.from.result * c.from-in-loop-place.result ≡ c.args.n * c.largest_of-largest.result
total_is c = rw (c.from.ensures, c.from-in-loop-place.ensures) refl

pub largest_of-largest-requires : goal.largest_of-largest-requires
largest_of-largest-requires c = let p = c.in-Some.ensures.steps.1 in column_limited p.stands _ p.step_is

pub overflow_mul-total : goal.overflow_mul-total
overflow_mul-total c =
    let p = c.in-Some.ensures.steps.1 in
    let b = column_limited p.stands _ p.step_is in
    let m : c.largest_of-largest.result ≤ 16777215 = rw c.largest_of-largest.ensures (largest_most _ b) in
    omega (arith, mul-le-mul_left c.args.n m, c.requires.1, total_is (goal.at.overflow_mul-total c).After-from-in-loop-place)

pub returns-then-from-total : goal.returns-then-from-total
returns-then-from-total c =
    let p = passed c.loop-place.invariant.2 c.in-Some.ensures.steps.1 in
    let t = total_is (goal.at.returns-then-from-total c).After-from-in-loop-place in
    rw (c.loop-place.invariant.3 ∙ not_fits c.args.n p _ c.largest_of-largest.ensures (omega arith))

pub loop-place-preserved : goal.loop-place-preserved
loop-place-preserved c =
    let p = passed c.loop-place.invariant.2 c.in-Some.ensures.steps.1 in
    let t = total_is (goal.at.loop-place-preserved c).After-from-in-loop-place in (
      tt,
      tt,
      c.in-Some.ensures.steps.0 ∙ c.loop-place.invariant.2,
      c.loop-place.invariant.3 ∙ fits_on c.args.n p _ c.largest_of-largest.ensures (omega arith),
    )

pub returns : goal.returns
unfolding totals_fit
returns c =
    let e = ended c.loop-place.invariant.2 c.in-None.ensures.steps.1.0 in
    rw (c.loop-place.invariant.3
    ∙ every_end (fits c.args.n) yes_no (columns_of c.args.s.now) c.loop-place.place-iterator.next.index (omega arith))
