-- `walk::fill_lefts` meets its contract: each turn writes the inputs of one column behind those of the columns before, and counts
-- its products. Assumes nothing.
use mathlib.Core.Path.{◌≡◌, sym, ap, ap₂, ◌∙◌, subst}
use mathlib.Core.List.{List, [], ◌∷◌}
use Prim.Native.Nat.{ℕ, ◌+◌, ◌≤◌}
use native.Mathlib.Omega.{arith}
use borrow.Rule.Slice.PartMut.{mid_len}
use lib.ListN.{length, take}
use Rattle.rules.specs.Columns.{columns_of}
use Rattle.rules.specs.Circuit.{products_of, gates_in, products_in}
use lib.Seq.{take_all}
use Rattle.rules.specs.Settings.{document01}
use Rattle.rules.specs.Walk.{column_lefts}
use Rattle.columns.specs.Counting.{counts_of}
use Rattle.columns.specs.Kinds.{from_code}
use Rattle.columns.specs.declared.Counts.{Counts}
use Rattle.columns.proofs.Sums.{gates, products, total_one, total_next, total_most}
use Rattle.sheet.specs.declared.cursor.Cursor.{Cursor}
use Rattle.sheet.specs.declared.cursor.Step.{Step}
use Rattle.walk.specs.Walks.{plain, members}
use Rattle.sheet.specs.declared.cursor.Walk.{Walk}
use Rattle.sheet.specs.Walk.{Passes}
use Rattle.sheet.proofs.Walks.{passed, ended}
use Rattle.walk.proofs.Walking.{Turned, Walking, turned, walk_start, walk_put, walk_finish}
use Rattle.walk.proofs.BitsOnly.{products_few}
use Rattle.walk.proofs.Meanings.{left_part, lefts, lefts_walked}
use Rattle.walk.proofs.fill_lefts.Goals as goal
use Rattle.walk.proofs.fill_lefts.Goals.{In-Some}

-- a turn adds the products of its column to those of the columns before
counted : {s : List ℕ} {c : Cursor} {step : Step} (k : Counts) (done : ℕ) → Turned s c step
    → k ≡ counts_of (from_code step.column ∷ []) → done ≡ products_in (take c.index (columns_of s))
    → done + k.products ≡ products_in (take step.next.index (columns_of s))
counted {s} {c} {step} k done turn e h =
    let cs = columns_of s in
    let own = ap (λ (k : Counts). k.products) e ∙ total_one products _ ∙ ap products_of turn.column_is in
    ap₂ ◌+◌ h own
    ∙ sym (total_next products cs c.index turn.within)
    ∙ sym (ap (λ (u : Cursor). products_in (take u.index cs)) turn.next_is)

-- and these are few
counted_few : {s : List ℕ} {c : Cursor} {step : Step} → Turned s c step
    → products_in (take step.next.index (columns_of s)) ≤ 256
counted_few {s} {c} {step} turn =
    let cs = columns_of s in
    let most = total_most products cs c.index turn.within in
    let index = ap (λ (u : Cursor). products_in (take u.index cs)) turn.next_is in
    let next = total_next products cs c.index turn.within in
    omega (arith, index, next, most, products_few cs, turn.gates_few)

-- the column passed
here : (c : In-Some) → Passes c.args.s.now c.loop-place.place-iterator.next c.in-Some.place c.next.new.self.next
here c = passed c.loop-place.invariant.2 c.in-Some.ensures.steps.1

turn_of : (c : In-Some)
    → Turned c.args.s.now c.loop-place.place-iterator.next (record { column = c.in-Some.place.column; next = c.next.new.self.next })
turn_of c = let p = here c in turned _ p.stands p.step_is

-- ---- the steps
pub loop-place-init : goal.loop-place-init
loop-place-init c =
    let out = c.args.out.now in
    let meaning = plain 0 (members c.args.x.now) in
    let g = c.into_iter-place-iterator.ensures.into_iter_gives in
    let n = ap (λ (x : Walk). x.next) g ∙ c.columns-place-items.ensures.next in
    let none : c.into_iter-place-iterator.result.next.gates ≡ 0 = ap (λ (u : Cursor). u.gates) n ∙ gates.nothing in (
      tt,
      tt,
      ap (λ (x : Walk). x.sheet.now) g ∙ c.columns-place-items.ensures.sheet,
      subst (Walking (left_part meaning) gates_in c.args.s.now out out c.into_iter-place-iterator.result.next) (sym none)
          (walk_start (lefts meaning) out c.into_iter-place-iterator.result.next n),
      sym (ap (λ (u : Cursor). products_in (take u.index (columns_of c.args.s.now))) n ∙ products.nothing),
    )

pub offset_bounds-out-from : goal.offset_bounds-out-from
offset_bounds-out-from c =
    let p = here (goal.at.offset_bounds-out-from c).In-Some in
    let turn = turn_of (goal.at.offset_bounds-out-from c).In-Some in
    let from = ap (λ (x : Cursor). x.gates) p.before_is in
    let to = ap (λ (x : Cursor). x.gates) p.after_is in
    omega (arith, turn.gates_next, turn.gates_fit, c.requires.1, from, to)

pub slice_bounds-column_lefts-count : goal.slice_bounds-column_lefts-count
slice_bounds-column_lefts-count c =
    let p = here (goal.at.slice_bounds-column_lefts-count c).In-Some in
    let turn = turn_of (goal.at.slice_bounds-column_lefts-count c).In-Some in
    let from = ap (λ (x : Cursor). x.gates) p.before_is in
    let to = ap (λ (x : Cursor). x.gates) p.after_is in
    omega (arith, turn.gates_next, from, to)

pub slice_bounds-column_lefts-start : goal.slice_bounds-column_lefts-start
slice_bounds-column_lefts-start c =
    let p = here (goal.at.slice_bounds-column_lefts-start c).In-Some in
    let turn = turn_of (goal.at.slice_bounds-column_lefts-start c).In-Some in
    let from = ap (λ (x : Cursor). x.gates) p.before_is in
    let to = ap (λ (x : Cursor). x.gates) p.after_is in
    omega (arith, turn.gates_next, from, to)

pub slice_bounds-column_lefts-end : goal.slice_bounds-column_lefts-end
slice_bounds-column_lefts-end c =
    let p = here (goal.at.slice_bounds-column_lefts-end c).In-Some in
    let turn = turn_of (goal.at.slice_bounds-column_lefts-end c).In-Some in
    let from = ap (λ (x : Cursor). x.gates) p.before_is in
    let to = ap (λ (x : Cursor). x.gates) p.after_is in
    omega (arith, turn.gates_fit, c.requires.1, c.loop-place.invariant.3.same, from, to)

pub column_lefts-requires : goal.column_lefts-requires
column_lefts-requires c =
    let p = here (goal.at.column_lefts-requires c).In-Some in
    let turn = turn_of (goal.at.column_lefts-requires c).In-Some in
    let l = c.loop-place in
    let from = ap (λ (x : Cursor). x.gates) p.before_is in
    let to = ap (λ (x : Cursor). x.gates) p.after_is in
    let entry = ap (λ (x : Cursor). x.entry) p.before_is in
    let fit : c.in-Some.place.after.gates ≤ length l.out = omega (arith, turn.gates_fit, c.requires.1, l.invariant.3.same, to) in (
      omega (arith, turn.entries_fit, c.requires.0.enough, entry),
      mid_len c.in-Some.place.before.gates c.in-Some.place.after.gates l.out fit ∙ omega (arith, turn.gates_next, from, to),
    )

pub counts_of-products-requires : goal.counts_of-products-requires
counts_of-products-requires c = let turn = turn_of (goal.at.counts_of-products-requires c).In-Some in turn.in_limits

pub overflow_add-products : goal.overflow_add-products
overflow_add-products c =
    let turn = turn_of (goal.at.overflow_add-products c).In-Some in
    omega (arith, counted c.counts_of-products.result _ turn c.counts_of-products.ensures c.loop-place.invariant.4, counted_few turn)

pub loop-place-preserved : goal.loop-place-preserved
loop-place-preserved c =
    let p = here (goal.at.loop-place-preserved c).In-Some in
    let turn = turn_of (goal.at.loop-place-preserved c).In-Some in
    let to = c.next.new.self.next.gates in
    let fits : to ≤ length c.args.out.now = omega (arith, turn.gates_fit, c.requires.1) in
    let filled = c.column_lefts in
    let meaning = plain 0 (members c.args.x.now) in
    let part = filled.ensures
    ∙ ap (λ (x : Cursor). column_lefts document01 meaning x.entry (from_code c.in-Some.place.column)) p.before_is in (
      tt,
      tt,
      c.in-Some.ensures.steps.0 ∙ c.loop-place.invariant.2,
      rw (p.before_is, p.after_is)
          (walk_put (lefts meaning) _ filled.new.out to c.loop-place.invariant.3 turn part turn.gates_next fits),
      counted c.counts_of-products.result _ turn c.counts_of-products.ensures c.loop-place.invariant.4,
    )

pub shape_of-out : goal.shape_of-out
shape_of-out c = c.loop-place.invariant.3.same

pub returns : goal.returns
returns c =
    let s = c.args.s.now in
    let meaning = plain 0 (members c.args.x.now) in
    let end = ended c.loop-place.invariant.2 c.in-None.ensures.steps.1.0 in (
      walk_finish (lefts meaning) c.loop-place.invariant.3 end c.requires.1 ∙ lefts_walked meaning (columns_of s) 0 0,
      c.loop-place.invariant.4 ∙ ap products_in (take_all c.loop-place.place-iterator.next.index (columns_of s) (omega arith)),
    )
