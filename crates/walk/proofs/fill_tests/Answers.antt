-- `walk::fill_tests` meets its contract: each turn writes the tests of one column behind those of the columns before.
-- Assumes nothing.
use mathlib.Core.Path.{◌≡◌, ap, ◌∙◌}
use mathlib.Core.List.{List, [], ◌∷◌}
use Prim.Native.Nat.{ℕ, ◌+◌, ◌≤◌}
use native.Mathlib.Omega.{arith}
use borrow.Rule.Slice.PartMut.{mid_len}
use lib.ListN.{length, take}
use Rattle.rules.specs.Columns.{columns_of}
use Rattle.rules.specs.Circuit.{tests_of, tests_in}
use Rattle.rules.specs.Settings.{document01}
use Rattle.rules.specs.Walk.{column_tests}
use Rattle.columns.specs.Counting.{counts_of}
use Rattle.columns.specs.declared.Counts.{Counts}
use Rattle.columns.specs.Kinds.{from_code}
use Rattle.columns.proofs.Sums.{tests as test-count, total_one, total_most}
use Rattle.sheet.specs.declared.cursor.Cursor.{Cursor}
use Rattle.sheet.specs.declared.cursor.Step.{Step}
use Rattle.walk.specs.Walks.{shared}
use Rattle.sheet.specs.declared.cursor.Walk.{Walk}
use Rattle.sheet.specs.Walk.{Passes}
use Rattle.sheet.proofs.Walks.{passed, ended}
use Rattle.walk.proofs.Walking.{Turned, turned, walk_start, walk_put, walk_finish}
use Rattle.walk.proofs.Meanings.{tests, tests_walked}
use Rattle.walk.proofs.fill_tests.Goals as goal
use Rattle.walk.proofs.fill_tests.Goals.{In-Some}

-- the tests of a turn's column, with those before them, are no more than all
tests_fit : {s : List ℕ} {c : Cursor} {step : Step} (done : ℕ) → Turned s c step
    → done ≡ tests_in (take c.index (columns_of s)) → done + tests_of (from_code step.column) ≤ tests_in (columns_of s)
tests_fit {s} {c} {step} done turn h =
    let most = total_most test-count (columns_of s) c.index turn.within in
    let column = ap tests_of turn.column_is in
    omega (arith, most, column, h)

counted : (step : Step) (k : Counts) → k ≡ counts_of (from_code step.column ∷ []) → k.tests ≡ tests_of (from_code step.column)
counted step k e = ap (λ (k : Counts). k.tests) e ∙ total_one test-count _

-- the column passed
here : (c : In-Some) → Passes c.args.s.now c.loop-place.place-iterator.next c.in-Some.place c.next.new.self.next
here c = passed c.loop-place.invariant.2 c.in-Some.ensures.steps.1

turn_of : (c : In-Some)
    → Turned c.args.s.now c.loop-place.place-iterator.next (record { column = c.in-Some.place.column; next = c.next.new.self.next })
turn_of c = let p = here c in turned _ p.stands p.step_is

-- ---- the steps
pub loop-place-init : goal.loop-place-init
loop-place-init c =
    let g = c.into_iter-place-iterator.ensures.into_iter_gives in
    let n = ap (λ (x : Walk). x.next) g ∙ c.columns-place-items.ensures.next in (
      tt,
      tt,
      ap (λ (x : Walk). x.sheet.now) g ∙ c.columns-place-items.ensures.sheet,
      walk_start (tests (shared c.args.factor c.args.l c.args.x.now)) c.args.out.now c.into_iter-place-iterator.result.next n,
    )

pub counts_of-requires : goal.counts_of-requires
counts_of-requires c = let turn = turn_of (goal.at.counts_of-requires c).In-Some in turn.in_limits

own_of : (c : In-Some) (k : Counts) → k ≡ counts_of (from_code c.in-Some.place.column ∷ [])
    → k.tests ≡ tests_of (from_code c.in-Some.place.column)
own_of c k e = counted (record { column = c.in-Some.place.column; next = c.next.new.self.next }) k e

pub overflow_add-to : goal.overflow_add-to
overflow_add-to c =
    let turn = turn_of (goal.at.overflow_add-to c).In-Some in
    let fits = tests_fit _ turn c.loop-place.invariant.3.count in
    let own = own_of (goal.at.overflow_add-to c).In-Some c.counts_of.result c.counts_of.ensures in
    omega (arith, own, fits, c.requires.out_len.0)

pub offset_bounds-out-done : goal.offset_bounds-out-done
offset_bounds-out-done c =
    let turn = turn_of (goal.at.offset_bounds-out-done c).In-Some in
    omega (arith, tests_fit _ turn c.loop-place.invariant.3.count, c.requires.out_len.0)

pub slice_bounds-column_tests-end : goal.slice_bounds-column_tests-end
slice_bounds-column_tests-end c =
    let turn = turn_of (goal.at.slice_bounds-column_tests-end c).In-Some in
    let fits = tests_fit _ turn c.loop-place.invariant.3.count in
    let own = own_of (goal.at.slice_bounds-column_tests-end c).In-Some c.counts_of.result c.counts_of.ensures in
    omega (arith, own, fits, c.requires.out_len.0, c.loop-place.invariant.3.same)

pub column_tests-requires : goal.column_tests-requires
column_tests-requires c =
    let p = here (goal.at.column_tests-requires c).In-Some in
    let turn = turn_of (goal.at.column_tests-requires c).In-Some in
    let fits = tests_fit _ turn c.loop-place.invariant.3.count in
    let own = own_of (goal.at.column_tests-requires c).In-Some c.counts_of.result c.counts_of.ensures in
    let l = c.loop-place in
    let to = l.done + c.counts_of.result.tests in
    let gates = ap (λ (x : Cursor). x.gates) p.before_is in
    let entry = ap (λ (x : Cursor). x.entry) p.before_is in
    let fit : to ≤ length l.out = omega (arith, own, fits, c.requires.out_len.0, l.invariant.3.same) in (
      record {
        elements = c.requires.entries.0.elements;
        factor = c.requires.out_len.1;
        in_limits = turn.in_limits;
        entries = omega (arith, turn.entries_fit, c.requires.entries.0.enough, entry);
        outputs_fit = omega (arith, turn.gates_next, turn.gates_fit, c.requires.entries.1.room, gates);
      },
      mid_len l.done to l.out fit ∙ omega (arith, own),
    )

pub loop-place-preserved : goal.loop-place-preserved
loop-place-preserved c =
    let p = here (goal.at.loop-place-preserved c).In-Some in
    let turn = turn_of (goal.at.loop-place-preserved c).In-Some in
    let fits = tests_fit _ turn c.loop-place.invariant.3.count in
    let own = own_of (goal.at.loop-place-preserved c).In-Some c.counts_of.result c.counts_of.ensures in
    let filled = c.column_tests in
    let l = c.loop-place in
    let meaning = shared c.args.factor c.args.l c.args.x.now in
    let part = filled.ensures
    ∙ ap (λ (x : Cursor). column_tests document01 meaning x.entry x.gates (from_code c.in-Some.place.column)) p.before_is in (
      tt,
      tt,
      c.in-Some.ensures.steps.0 ∙ c.loop-place.invariant.2,
      walk_put (tests meaning) _ filled.new.out (l.done + c.counts_of.result.tests) l.invariant.3 turn part (ap (l.done +◌) own)
          (omega (arith, own, fits, c.requires.out_len.0)),
    )

pub shape_of-out : goal.shape_of-out
shape_of-out c = c.loop-place.invariant.3.same

pub returns : goal.returns
returns c =
    let meaning = shared c.args.factor c.args.l c.args.x.now in
    let end = ended c.loop-place.invariant.2 c.in-None.ensures.steps.1.0 in
    walk_finish (tests meaning) c.loop-place.invariant.3 end c.requires.out_len.0
    ∙ tests_walked meaning (columns_of c.args.s.now) 0 0
