-- `listing::put_columns` meets its contract. The loop's invariant: the lines of the columns before the walk's place are put
-- there (`before_next`). Assumes nothing.
use mathlib.Core.Path.{◌≡◌, ap, ◌∙◌}
use native.Mathlib.Omega.{arith}
use borrow.Author.Rules.{rules}
use Rattle.sheet.specs.declared.cursor.Cursor.{Cursor}
use Rattle.sheet.specs.declared.cursor.Walk.{Walk}
use Rattle.sheet.specs.Walk.{Passes}
use Rattle.sheet.proofs.Cursors.{place}
use Rattle.sheet.proofs.Walks.{next_index, passed, ended}
use Rattle.listing.proofs.Walking.{before_start, before_next, before_end, step_published, options_fit}
use Rattle.listing.proofs.put_columns.Goals as goal
use Rattle.listing.proofs.put_columns.Goals.{In-Some}

-- the column passed
here : (c : In-Some) → Passes c.args.s.now c.loop-place.place-iterator.next c.in-Some.place c.next.new.self.next
here c = passed c.loop-place.invariant.2 c.in-Some.ensures.steps.1

pub loop-place-init : goal.loop-place-init
loop-place-init c =
    let a = c.args in
    let g = c.into_iter-place-iterator.ensures.into_iter_gives in
    let b = ap (λ (x : Walk). x.next.index) g ∙ ap (λ (x : Cursor). x.index) c.columns-place-items.ensures.next in (
      tt,
      tt,
      ap (λ (x : Walk). x.sheet.now) g ∙ c.columns-place-items.ensures.sheet,
      rw b (before_start a.s.now a.totals.now a.out.now a.at (omega (arith, c.requires.room))),
    )

pub overflow_cast-column : goal.overflow_cast-column
overflow_cast-column c =
    let p = here (goal.at.overflow_cast-column c).In-Some in
    let i = ap (λ (x : Cursor). x.index) p.after_is ∙ next_index p.stands _ p.step_is in
    let q = place p.stands in search (rules, q.index_fits, i)

pub overflow_sub-options : goal.overflow_sub-options
overflow_sub-options c =
    let p = here (goal.at.overflow_sub-options c).In-Some in
    let b = ap (λ (x : Cursor). x.published) p.before_is in
    let a = ap (λ (x : Cursor). x.published) p.after_is in
    omega (arith, step_published p.stands _ p.step_is)

pub put_options-next-requires : goal.put_options-next-requires
put_options-next-requires c =
    let p = here (goal.at.put_options-next-requires c).In-Some in
    rw (p.before_is, p.after_is) (options_fit p.stands _ p.step_is _ _ _ _ _ c.loop-place.invariant.3 c.requires)

pub loop-place-preserved : goal.loop-place-preserved
loop-place-preserved c =
    let p = here (goal.at.loop-place-preserved c).In-Some in
    let i = ap (λ (x : Cursor). x.index) p.after_is ∙ next_index p.stands _ p.step_is in
    let b = ap (λ (x : Cursor). x.published) p.before_is in
    let a = ap (λ (x : Cursor). x.published) p.after_is in (
      tt,
      tt,
      c.in-Some.ensures.steps.0 ∙ c.loop-place.invariant.2,
      before_next p.stands _ p.step_is _ _ _ _ _ c.loop-place.invariant.3 _ _ (rw (i, a, b) at c.put_options-next.ensures),
    )

pub returns : goal.returns
returns c =
    let e = ended c.loop-place.invariant.2 c.in-None.ensures.steps.1.0 in
    before_end _ _ _ _ c.loop-place.place-iterator.next.index _ _ (omega arith) c.loop-place.invariant.3
