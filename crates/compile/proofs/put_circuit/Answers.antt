-- `compile::put_circuit` meets its contract: each turn writes the steps of one column (`wrote_next`), for which there is room
-- (`wrote_room`). Assumes nothing.
use mathlib.Core.Path.{◌≡◌, ap, ◌∙◌}
use native.Mathlib.Omega.{arith}
use Rattle.sheet.specs.Walk.{Passes}
use Rattle.sheet.specs.declared.cursor.Cursor.{Cursor}
use Rattle.sheet.specs.declared.cursor.Walk.{Walk}
use Rattle.sheet.proofs.Walks.{column_limited, passed, ended}
use Rattle.compile.proofs.Columns.{sheet_long}
use Rattle.compile.proofs.Walk.{Room, wrote_start, wrote_room, wrote_next, wrote_end}
use Rattle.compile.proofs.put_circuit.Goals as goal
use Rattle.compile.proofs.put_circuit.Goals.{In-Some}

pub put_constant-at-requires : goal.put_constant-at-requires
put_constant-at-requires c = omega (arith, sheet_long c.args.sheet.now, c.requires.1)

pub loop-place-init : goal.loop-place-init
loop-place-init c =
    let g = c.into_iter-place-iterator.ensures.into_iter_gives in
    let b = ap (λ (x : Walk). x.next.index) g ∙ ap (λ (x : Cursor). x.index) c.columns-place-items.ensures.next in (
      tt,
      tt,
      ap (λ (x : Walk). x.sheet.now) g ∙ c.columns-place-items.ensures.sheet,
      rw b (wrote_start c.args.sheet.now _ _ (omega (arith, c.put_constant-at.ensures))),
    )

-- the column passed, and the room for it
here : (c : In-Some) → Passes c.args.sheet.now c.loop-place.place-iterator.next c.in-Some.place c.next.new.self.next
here c = passed c.loop-place.invariant.2 c.in-Some.ensures.steps.1

room : (c : In-Some) → Room (here c).stands _ (here c).step_is c.loop-place.out c.loop-place.wire c.loop-place.at
room c =
    wrote_room (here c).stands _ (here c).step_is (omega (arith, c.put_constant-at.ensures, c.requires.1)) c.loop-place.invariant.3

entry_is : (c : In-Some) → c.in-Some.place.before.entry ≡ c.loop-place.place-iterator.next.entry
entry_is c = ap (λ (x : Cursor). x.entry) (here c).before_is

pub overflow_cast-place : goal.overflow_cast-place
overflow_cast-place c =
    let i = (goal.at.overflow_cast-place c).In-Some in
    omega (arith, entry_is i, (room i).entry_most)

pub put_column-at-requires : goal.put_column-at-requires
put_column-at-requires c =
    let i = (goal.at.put_column-at-requires c).In-Some in
    let r = room i in
    (r.room, column_limited (here i).stands _ (here i).step_is, omega (arith, entry_is i, r.entry_most), omega (arith, r.wire_most))

pub wires_of-wire-requires : goal.wires_of-wire-requires
wires_of-wire-requires c =
    let p = here (goal.at.wires_of-wire-requires c).In-Some in
    column_limited p.stands _ p.step_is

pub overflow_add-wire : goal.overflow_add-wire
overflow_add-wire c = omega (arith, c.wires_of-wire.ensures, (room (goal.at.overflow_add-wire c).In-Some).wire_most)

pub loop-place-preserved : goal.loop-place-preserved
loop-place-preserved c =
    let i = (goal.at.loop-place-preserved c).In-Some in
    let p = here i in (
      tt,
      tt,
      c.in-Some.ensures.steps.0 ∙ c.loop-place.invariant.2,
      wrote_next p.stands _ p.step_is c.loop-place.invariant.3 c.wires_of-wire.ensures (rw (entry_is i) at c.put_column-at.ensures),
    )

pub returns : goal.returns
returns c =
    let end = ended c.loop-place.invariant.2 c.in-None.ensures.steps.1.0 in
    wrote_end c.loop-place.invariant.3 (omega (arith, end)) c.put_constant-at.ensures

pub shape_of-out : goal.shape_of-out
shape_of-out c = (returns c).same
