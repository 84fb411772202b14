-- `values::check_values` meets its contract. The loop's invariant: the answer is that of the columns and values from
-- the walk's place on (`legal_next`). Assumes nothing.
use mathlib.Core.Path.{◌≡◌, sym, ap, ◌∙◌}
use mathlib.Core.Bool.{true, false, ◌&&◌}
use mathlib.Core.List.{List}
use Prim.Native.Nat.{ℕ, ◌+◌, ◌*◌, ◌≤◌, ◌<◌}
use native.Mathlib.Omega.{arith}
use borrow.Author.Tests.{lt-ltb, le-ltb}
use lib.Dec.{ltb}
use lib.ListN.{length, get_or, drop}
use Rattle.words.specs.Bytes.{elements_of}
use Rattle.rules.specs.Columns.{yes_no, values_of, columns_of}
use Rattle.rules.specs.Values.{legal_values}
use Rattle.rules.proofs.Circuits.Limits.{limits}
use Rattle.columns.specs.Kinds.{from_code}
use Rattle.sheet.specs.declared.cursor.Cursor.{Cursor}
use Rattle.sheet.specs.declared.cursor.Step.{Step}
use Rattle.sheet.specs.Cursor.{Stands, step_at}
use Rattle.sheet.specs.Walk.{Passes}
use Rattle.sheet.proofs.Walks.{next_index, column_seen, column_limited, passed, ended}
use Rattle.values.proofs.Encodings.{count_values, legal_next, legal_end, values_missing, values_each}
use Rattle.values.proofs.check_values.Goals as goal
use Rattle.values.proofs.check_values.Goals.{At-loop-place, In-Some}

-- the column under the cursor, with so many values, and the value v for it
module _
    {s : List ℕ} {c : Cursor} (values : List ℕ) (each : length values ≡ 4 * length (columns_of s))
    (h : Stands s c) (r : Step) (e : r ≡ step_at s c.index) (many : ℕ) (many_is : many ≡ values_of (from_code r.column))
    (v : ℕ) (v_is : v ≡ get_or (elements_of 4 values) c.index 0)
  where
    many_here : many ≡ values_of (get_or (columns_of s) c.index yes_no)
    many_here = many_is ∙ ap values_of (column_seen h r e)

    first : legal_values (drop c.index (columns_of s)) (drop c.index (elements_of 4 values))
        ≡ ltb (get_or (elements_of 4 values) c.index 0) (values_of (get_or (columns_of s) c.index yes_no))
        && legal_values (drop (c.index + 1) (columns_of s)) (drop (c.index + 1) (elements_of 4 values))
    first =
        legal_next (columns_of s) (elements_of 4 values) c.index h.within
        (rw (count_values values (length (columns_of s)) each) h.within)

    outside : many ≤ v → legal_values (drop c.index (columns_of s)) (drop c.index (elements_of 4 values)) ≡ false
    outside l =
        let f : ltb (get_or (elements_of 4 values) c.index 0) (values_of (get_or (columns_of s) c.index yes_no)) ≡ false
        = rw (← many_here, ← v_is) (le-ltb v many l) in
        first ∙ rw f

    inside : v < many
        → legal_values (drop c.index (columns_of s)) (drop c.index (elements_of 4 values))
        ≡ legal_values (drop r.next.index (columns_of s)) (drop r.next.index (elements_of 4 values))
    inside l =
        let f : ltb (get_or (elements_of 4 values) c.index 0) (values_of (get_or (columns_of s) c.index yes_no)) ≡ true
        = rw (← many_here, ← v_is) (lt-ltb v many l) in
        first ∙ rw (f, next_index h r e)

pub overflow_mul-columns : goal.overflow_mul-columns
overflow_mul-columns c =
    let m = limits _ _ c.requires.is_read in
    omega (arith, c.requires.columns_are, m.columns_most, m.entries_most)

pub returns-then-values-columns : goal.returns-then-values-columns
returns-then-values-columns c =
    sym (values_missing _ _ (λ e. c.if-values-columns.true (e ∙ ap (λ (n : ℕ). 4 * n) (sym c.requires.columns_are))))

-- a value for each column, and the column passed
each_value : (c : At-loop-place) → length c.args.values.now ≡ 4 * length (columns_of c.args.s.now)
each_value c = c.if-values-columns.false ∙ ap (λ (n : ℕ). 4 * n) c.requires.columns_are

here : (c : In-Some) → Passes c.args.s.now c.loop-place.place-iterator.next c.in-Some.place c.next.new.self.next
here c = passed c.loop-place.invariant.2 c.in-Some.ensures.steps.1

pub values_of-requires : goal.values_of-requires
values_of-requires c = let p = c.in-Some.ensures.steps.1 in column_limited p.stands _ p.step_is

pub at-requires : goal.at-requires
at-requires c =
    let p = here (goal.at.at-requires c).In-Some in
    let i = ap (λ (x : Cursor). x.index) p.before_is in
    omega (arith, each_value (goal.at.at-requires c).At-loop-place, p.stands.within, i)

pub returns-then-values_of-at : goal.returns-then-values_of-at
returns-then-values_of-at c =
    let p = here (goal.at.returns-then-values_of-at c).In-Some in
    let e = each_value (goal.at.returns-then-values_of-at c).At-loop-place in
    let v = c.at.ensures ∙ ap (λ (x : Cursor). get_or (elements_of 4 c.args.values.now) x.index 0) p.before_is in
    let o = outside _ e p.stands _ p.step_is _ c.values_of.ensures _ v c.if-values_of-at.true in
    sym (values_each _ _ e ∙ rw (c.loop-place.invariant.3 ∙ o))

pub loop-place-preserved : goal.loop-place-preserved
loop-place-preserved c =
    let p = here (goal.at.loop-place-preserved c).In-Some in
    let e = each_value (goal.at.loop-place-preserved c).At-loop-place in
    let v = c.at.ensures ∙ ap (λ (x : Cursor). get_or (elements_of 4 c.args.values.now) x.index 0) p.before_is in (
      tt,
      tt,
      c.in-Some.ensures.steps.0 ∙ c.loop-place.invariant.2,
      c.loop-place.invariant.3 ∙ inside _ e p.stands _ p.step_is _ c.values_of.ensures _ v c.if-values_of-at.false,
    )

pub returns : goal.returns
returns c =
    let s = c.args.s.now in
    let values = c.args.values.now in
    let e = each_value (goal.at.returns c).At-loop-place in
    let n = count_values values (length (columns_of s)) e in
    let z = ended c.loop-place.invariant.2 c.in-None.ensures.steps.1.0 in
    let o = legal_end (columns_of s) (elements_of 4 values) c.loop-place.place-iterator.next.index (omega arith) (omega arith) in
    sym (values_each _ _ e ∙ rw (c.loop-place.invariant.3 ∙ o))
