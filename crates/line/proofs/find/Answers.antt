-- `line::find` meets its contract. The loop's invariant: no column before the walk's place has the number. Assumes nothing.
use mathlib.Core.Path.{sym, ap, ap₂, ◌∙◌}
use native.Mathlib.Omega.{arith}
use Rattle.sheet.specs.declared.cursor.Cursor.{Cursor}
use Rattle.sheet.specs.declared.cursor.Walk.{Walk}
use Rattle.sheet.specs.Walk.{Passes}
use Rattle.sheet.proofs.Walks.{next_index, column_seen, passed, ended}
use Rattle.line.specs.Calls.{point_at}
use Rattle.line.proofs.Finding.{found_at, found_none}
use Rattle.line.proofs.find.Goals as goal
use Rattle.line.proofs.find.Goals.{In-Some}

-- the column passed
here : (c : In-Some) → Passes c.args.s.now c.loop-place.place-iterator.next c.in-Some.place c.next.new.self.next
here c = passed c.loop-place.invariant.2 c.in-Some.ensures.steps.1

pub loop-place-init : goal.loop-place-init
loop-place-init c =
    let g = c.into_iter-place-iterator.ensures.into_iter_gives in
    let b = ap (λ (x : Walk). x.next.index) g ∙ ap (λ (x : Cursor). x.index) c.columns-place-items.ensures.next in (
      tt,
      tt,
      ap (λ (x : Walk). x.sheet.now) g ∙ c.columns-place-items.ensures.sheet,
      λ h. omega arith,
    )

pub returns-then-place-column : goal.returns-then-place-column
returns-then-place-column c =
    let p = here (goal.at.returns-then-place-column c).In-Some in
    let h = p.stands in
    let published = ap (λ (x : Cursor). x.published) p.before_is ∙ ap (λ (x : Cursor). x.published) h.here in
    let index = ap (λ (x : Cursor). x.index) p.after_is in
    c.point_at.ensures
    ∙ ap₂ point_at (column_seen h _ p.step_is) published
    ∙ found_at _ _ _ h.within (sym (next_index h _ p.step_is) ∙ sym index ∙ c.if-place-column.true)

pub loop-place-preserved : goal.loop-place-preserved
loop-place-preserved c =
    let p = here (goal.at.loop-place-preserved c).In-Some in
    let i = next_index p.stands _ p.step_is in
    let index = ap (λ (x : Cursor). x.index) p.after_is in (
      tt,
      tt,
      c.in-Some.ensures.steps.0 ∙ c.loop-place.invariant.2,
      λ l. c.loop-place.invariant.3 (omega (arith, c.if-place-column.false)),
    )

pub returns : goal.returns
returns c =
    let e = ended c.loop-place.invariant.2 c.in-None.ensures.steps.1.0 in
    found_none _ _ (λ h. c.loop-place.invariant.3 (omega arith))
