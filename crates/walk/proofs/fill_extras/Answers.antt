-- `walk::fill_extras` meets its contract: each turn writes the extras of one column behind those of the columns before.
-- Assumes nothing.
use mathlib.Core.Path.{◌≡◌, sym, ap, ◌∙◌, subst}
use Prim.Native.Nat.{◌≤◌}
use native.Mathlib.Omega.{arith}
use borrow.Rule.Slice.PartMut.{mid_len}
use lib.ListN.{length}
use Rattle.rules.specs.Columns.{columns_of}
use Rattle.rules.specs.Circuit.{gates_in}
use Rattle.rules.specs.Products.{column_extras}
use Rattle.field.specs.Residues.{residues}
use Rattle.columns.specs.Kinds.{from_code}
use Rattle.columns.proofs.Sums.{gates}
use Rattle.sheet.specs.declared.cursor.Cursor.{Cursor}
use Rattle.walk.specs.Walks.{members}
use Rattle.sheet.specs.declared.cursor.Walk.{Walk}
use Rattle.sheet.specs.Walk.{Passes}
use Rattle.sheet.proofs.Walks.{passed, ended}
use Rattle.walk.proofs.Walking.{Turned, Walking, turned, walk_start, walk_put, walk_finish}
use Rattle.walk.proofs.Meanings.{extra_part, extras, extras_walked}
use Rattle.walk.proofs.fill_extras.Goals as goal
use Rattle.walk.proofs.fill_extras.Goals.{In-Some}

-- the column passed
here : (c : In-Some) → Passes c.args.s.now c.loop-place.place-iterator.next c.in-Some.place c.next.new.self.next
here c = passed c.loop-place.invariant.2 c.in-Some.ensures.steps.1

turn_of : (c : In-Some)
    → Turned c.args.s.now c.loop-place.place-iterator.next (record { column = c.in-Some.place.column; next = c.next.new.self.next })
turn_of c = let p = here c in turned _ p.stands p.step_is

-- ---- the steps
pub loop-place-init : goal.loop-place-init
loop-place-init c =
    let out = c.args.out.now in
    let entries = members c.args.x.now in
    let g = c.into_iter-place-iterator.ensures.into_iter_gives in
    let n = ap (λ (x : Walk). x.next) g ∙ c.columns-place-items.ensures.next in
    let none : c.into_iter-place-iterator.result.next.gates ≡ 0 = ap (λ (u : Cursor). u.gates) n ∙ gates.nothing in (
      tt,
      tt,
      ap (λ (x : Walk). x.sheet.now) g ∙ c.columns-place-items.ensures.sheet,
      subst (Walking (extra_part c.args.constant entries) gates_in c.args.s.now out out c.into_iter-place-iterator.result.next) (sym none)
          (walk_start (extras c.args.constant entries) out c.into_iter-place-iterator.result.next n),
    )

pub offset_bounds-out-from : goal.offset_bounds-out-from
offset_bounds-out-from c =
    let p = here (goal.at.offset_bounds-out-from c).In-Some in
    let turn = turn_of (goal.at.offset_bounds-out-from c).In-Some in
    let from = ap (λ (x : Cursor). x.gates) p.before_is in
    let to = ap (λ (x : Cursor). x.gates) p.after_is in
    omega (arith, turn.gates_next, turn.gates_fit, c.requires.1, from, to)

pub slice_bounds-column_extras-count : goal.slice_bounds-column_extras-count
slice_bounds-column_extras-count c =
    let p = here (goal.at.slice_bounds-column_extras-count c).In-Some in
    let turn = turn_of (goal.at.slice_bounds-column_extras-count c).In-Some in
    let from = ap (λ (x : Cursor). x.gates) p.before_is in
    let to = ap (λ (x : Cursor). x.gates) p.after_is in
    omega (arith, turn.gates_next, from, to)

pub slice_bounds-column_extras-start : goal.slice_bounds-column_extras-start
slice_bounds-column_extras-start c =
    let p = here (goal.at.slice_bounds-column_extras-start c).In-Some in
    let turn = turn_of (goal.at.slice_bounds-column_extras-start c).In-Some in
    let from = ap (λ (x : Cursor). x.gates) p.before_is in
    let to = ap (λ (x : Cursor). x.gates) p.after_is in
    omega (arith, turn.gates_next, from, to)

pub slice_bounds-column_extras-end : goal.slice_bounds-column_extras-end
slice_bounds-column_extras-end c =
    let p = here (goal.at.slice_bounds-column_extras-end c).In-Some in
    let turn = turn_of (goal.at.slice_bounds-column_extras-end c).In-Some in
    let from = ap (λ (x : Cursor). x.gates) p.before_is in
    let to = ap (λ (x : Cursor). x.gates) p.after_is in
    omega (arith, turn.gates_fit, c.requires.1, c.loop-place.invariant.3.same, from, to)

pub column_extras-requires : goal.column_extras-requires
column_extras-requires c =
    let p = here (goal.at.column_extras-requires c).In-Some in
    let turn = turn_of (goal.at.column_extras-requires c).In-Some in
    let l = c.loop-place in
    let from = ap (λ (x : Cursor). x.gates) p.before_is in
    let to = ap (λ (x : Cursor). x.gates) p.after_is in
    let entry = ap (λ (x : Cursor). x.entry) p.before_is in
    let fit : c.in-Some.place.after.gates ≤ length l.out = omega (arith, turn.gates_fit, c.requires.1, l.invariant.3.same, to) in
    record {
      elements = (c.requires.0.elements, c.requires.2, turn.in_limits);
      column_in_bounds = (
        omega (arith, turn.entries_fit, c.requires.0.enough, entry),
        mid_len c.in-Some.place.before.gates c.in-Some.place.after.gates l.out fit ∙ omega (arith, turn.gates_next, from, to),
      );
    }

pub loop-place-preserved : goal.loop-place-preserved
loop-place-preserved c =
    let p = here (goal.at.loop-place-preserved c).In-Some in
    let turn = turn_of (goal.at.loop-place-preserved c).In-Some in
    let to = c.next.new.self.next.gates in
    let fits : to ≤ length c.args.out.now = omega (arith, turn.gates_fit, c.requires.1) in
    let filled = c.column_extras in
    let entries = members c.args.x.now in
    let part = filled.ensures
    ∙ ap (λ (x : Cursor). column_extras residues c.args.constant entries x.entry (from_code c.in-Some.place.column)) p.before_is in (
      tt,
      tt,
      c.in-Some.ensures.steps.0 ∙ c.loop-place.invariant.2,
      rw (p.before_is, p.after_is)
          (walk_put (extras c.args.constant entries) _ filled.new.out to c.loop-place.invariant.3 turn part turn.gates_next fits),
    )

pub shape_of-out : goal.shape_of-out
shape_of-out c = c.loop-place.invariant.3.same

pub returns : goal.returns
returns c =
    let entries = members c.args.x.now in
    let end = ended c.loop-place.invariant.2 c.in-None.ensures.steps.1.0 in
    walk_finish (extras c.args.constant entries) c.loop-place.invariant.3 end c.requires.1
    ∙ extras_walked c.args.constant entries (columns_of c.args.s.now) 0 0
