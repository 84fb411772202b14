-- `every_return::count_lists` meets its contract. The loop's invariant: the total is that of the columns before the cursor
-- (`total_next`), and is not too large. Assumes nothing.
use mathlib.Core.Path.{◌≡◌, refl, sym, ap, ◌∙◌}
use Prim.Native.Nat.{◌≤◌}
use native.Mathlib.Nat.{mul-le-mul}
use native.Mathlib.Omega.{arith}
use lib.Seq.{take_all}
use Rattle.records.specs.Outcome.{ok}
use Rattle.rules.specs.Columns.{columns_of}
use Rattle.rules.specs.EveryReturn.{lists_in}
use Rattle.sheet.specs.declared.cursor.Cursor.{Cursor}
use Rattle.sheet.specs.Walk.{Passes}
use Rattle.sheet.specs.declared.cursor.Walk.{Walk}
use Rattle.sheet.proofs.Walks.{column_limited, passed, ended}
use Rattle.every_return.proofs.Products.{few_lists, many_lists}
use Rattle.every_return.proofs.Steps.{total_next, total_most}
use Rattle.every_return.proofs.count_lists.Goals as goal
use Rattle.every_return.proofs.count_lists.Goals.{In-Some}

-- the column passed
here : (c : In-Some) → Passes c.args.s.now c.loop-place.place-iterator.next c.in-Some.place c.next.new.self.next
here c = passed c.loop-place.invariant.2 c.in-Some.ensures.steps.1

pub loop-place-init : goal.loop-place-init
unfolding lists_in
loop-place-init c =
    let g = c.into_iter-place-iterator.ensures.into_iter_gives in
    let b = ap (λ (x : Walk). x.next.index) g ∙ ap (λ (x : Cursor). x.index) c.columns-place-items.ensures.next in (
      tt,
      tt,
      ap (λ (x : Walk). x.sheet.now) g ∙ c.columns-place-items.ensures.sheet,
      rw b refl,
      omega arith,
    )

pub values_of-requires : goal.values_of-requires
values_of-requires c = let p = here (goal.at.values_of-requires c).In-Some in column_limited p.stands _ p.step_is

pub overflow_mul-total : goal.overflow_mul-total
overflow_mul-total c =
    let low : c.from-total.result ≤ 4294967295 = omega arith in
    omega (arith, mul-le-mul c.loop-place.invariant.4 low)

pub returns-then-total-gt-MAX_LISTS : goal.returns-then-total-gt-MAX_LISTS
returns-then-total-gt-MAX_LISTS c =
    let p = here (goal.at.returns-then-total-gt-MAX_LISTS c).In-Some in
    let m = total_most p.stands _ p.step_is _ (c.from-total.ensures ∙ c.values_of.ensures) _ c.loop-place.invariant.3 in
    sym (many_lists _ (omega (arith, m, c.if-total-gt-MAX_LISTS.true)))

pub overflow_cast-result : goal.overflow_cast-result
overflow_cast-result c = omega (arith, c.loop-place.invariant.4)

pub loop-place-preserved : goal.loop-place-preserved
loop-place-preserved c =
    let p = here (goal.at.loop-place-preserved c).In-Some in (
      tt,
      tt,
      c.in-Some.ensures.steps.0 ∙ c.loop-place.invariant.2,
      total_next p.stands _ p.step_is _ (c.from-total.ensures ∙ c.values_of.ensures) _ c.loop-place.invariant.3,
      c.if-total-gt-MAX_LISTS.false,
    )

pub returns : goal.returns
returns c =
    let cs = columns_of c.args.s.now in
    let end = ended c.loop-place.invariant.2 c.in-None.ensures.steps.1.0 in
    let all : c.loop-place.total ≡ lists_in cs
    = c.loop-place.invariant.3
    ∙ ap lists_in (take_all c.loop-place.place-iterator.next.index cs (omega arith)) in
    ap ok all ∙ sym (few_lists cs (omega (arith, all, c.loop-place.invariant.4)))
