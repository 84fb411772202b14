-- `every_return::write_columns` meets its contract. The loop's invariant: the columns before the cursor are put in all lists
-- (`ColumnsPut`), and `behind` is the count of the lists of the columns from the cursor on (`behind_next`); the measure is what
-- is left of the columns. Assumes nothing.
use mathlib.Core.Path.{sym, ap, ◌∙◌}
use Prim.Native.Nat.{ℕ, ◌*◌}
use native.Mathlib.Omega.{arith}
use lib.ListN.{drop}
use Rattle.rules.specs.Columns.{columns_of}
use Rattle.rules.specs.EveryReturn.{lists_in, every_return_bytes}
use Rattle.rules.proofs.Circuits.Limits.{limits}
use Rattle.sheet.specs.declared.cursor.Cursor.{Cursor}
use Rattle.sheet.specs.Walk.{Passes}
use Rattle.sheet.specs.declared.cursor.Walk.{Walk}
use Rattle.sheet.proofs.Walks.{column_limited, passed, ended}
use Rattle.every_return.proofs.Rows.{columns_none, columns_next, columns_all}
use Rattle.every_return.proofs.Steps.{values_here, next_is, some_values, behind_next, some_behind}
use Rattle.every_return.proofs.write_columns.Goals as goal
use Rattle.every_return.proofs.write_columns.Goals.{In-Some}

pub overflow_mul-size : goal.overflow_mul-size
overflow_mul-size c =
    let m = limits _ _ c.requires.is_read in
    omega (arith, c.requires.columns_are, m.columns_most, m.entries_most)

-- the column passed
here : (c : In-Some) → Passes c.args.s.now c.loop-place.place-iterator.next c.in-Some.place c.next.new.self.next
here c = passed c.loop-place.invariant.2 c.in-Some.ensures.steps.1

pub loop-place-init : goal.loop-place-init
loop-place-init c =
    let a = c.args in
    let g = c.into_iter-place-iterator.ensures.into_iter_gives in
    let b = ap (λ (x : Walk). x.next.index) g ∙ ap (λ (x : Cursor). x.index) c.columns-place-items.ensures.next in (
      tt,
      tt,
      ap (λ (x : Walk). x.sheet.now) g ∙ c.columns-place-items.ensures.sheet,
      rw b c.requires.lists_are,
      rw b (columns_none (columns_of a.s.now) a.lists a.out.now),
    )

pub values_of-values-requires : goal.values_of-values-requires
values_of-values-requires c = let p = here (goal.at.values_of-values-requires c).In-Some in column_limited p.stands _ p.step_is

pub nonzero_div-behind : goal.nonzero_div-behind
nonzero_div-behind c =
    let p = here (goal.at.nonzero_div-behind c).In-Some in some_values p.stands _ p.step_is _ c.values_of-values.ensures

pub overflow_mul-place : goal.overflow_mul-place
overflow_mul-place c =
    let p = here (goal.at.overflow_mul-place c).In-Some in
    let h = p.stands in
    let m = limits _ _ h.is_read in
    omega (arith, h.within, m.columns_most, m.entries_most, ap (λ (x : Cursor). x.index) p.before_is)

pub write_column-requires : goal.write_column-requires
write_column-requires c =
    let p = here (goal.at.write_column-requires c).In-Some in
    let h = p.stands in
    let v = c.values_of-values.ensures in
    let room = ap (λ (k : ℕ). 4 * k * c.args.lists) c.requires.columns_are in (
      omega (arith, h.within, c.requires.columns_are, ap (λ (x : Cursor). x.index) p.before_is),
      omega (arith, room, c.requires.room, c.loop-place.invariant.4.same),
      some_behind h _ p.step_is _ v _ c.loop-place.invariant.3,
      some_values h _ p.step_is _ v,
    )

pub loop-place-preserved : goal.loop-place-preserved
loop-place-preserved c =
    let a = c.args in
    let cs = columns_of a.s.now in
    let p = here (goal.at.loop-place-preserved c).In-Some in
    let h = p.stands in
    let e = p.step_is in
    let v = c.values_of-values.ensures in
    let behind = behind_next h _ e _ v _ c.loop-place.invariant.3 in
    let next = next_is h _ e _ v in
    let put = columns_next cs a.lists a.out.now c.requires.room c.loop-place.out c.loop-place.place-iterator.next.index h.within
    c.loop-place.invariant.4 _ _ behind (values_here h _ e _ v) in (
      tt,
      tt,
      c.in-Some.ensures.steps.0 ∙ c.loop-place.invariant.2,
      behind ∙ ap (λ (k : ℕ). lists_in (drop k cs)) (sym next),
      rw (next, c.write_column.ensures, c.requires.columns_are, p.before_is) put,
    )

pub shape_of-out : goal.shape_of-out
shape_of-out c = c.loop-place.invariant.4.same

pub returns : goal.returns
unfolding every_return_bytes
returns c =
    let a = c.args in
    let cs = columns_of a.s.now in
    let end = ended c.loop-place.invariant.2 c.in-None.ensures.steps.1.0 in
    columns_all cs a.lists a.out.now c.requires.room c.loop-place.out (rw end at c.loop-place.invariant.4) c.requires.lists_are
