-- `entering::adding::add_published` meets its contract. The loop's invariant: the totals before the cursor are added (`Added`);
-- the measure is what is left of the sheet. Assumes nothing.
use native.Mathlib.Omega.{arith}
use Rattle.entering.proofs.AddedColumns.{added_start, added_stands, next_published, added_less}
use Rattle.entering.proofs.AddedColumns.{added_addable, added_turn, added_all}
use Rattle.entering.proofs.adding.add_published.Goals as goal

pub loop-c-init : goal.loop-c-init
loop-c-init c =
    (c.requires, added_start c.args.t.now c.args.k c.args.xs.now c.start-c.result c.start-c.ensures)

pub sheet_part-requires : goal.sheet_part-requires
sheet_part-requires c =
    omega (arith, c.loop-c.invariant.0.long, c.loop-c.invariant.1.same)

pub next-step-requires : goal.next-step-requires
next-step-requires c =
    let T = c.args.t.now in
    let k = c.args.k in
    let X = c.args.xs.now in
    let v = c.loop-c.invariant.0 in
    let w = c.loop-c.invariant.1 in
    rw c.sheet_part.ensures (added_stands T k X v c.loop-c.t c.loop-c.c w c.loop-c-test.true)

pub overflow_sub-n : goal.overflow_sub-n
overflow_sub-n c =
    let T = c.args.t.now in
    let k = c.args.k in
    let X = c.args.xs.now in
    let v = c.loop-c.invariant.0 in
    let w = c.loop-c.invariant.1 in
    let e = rw c.sheet_part.ensures at c.next-step.ensures in
    omega (arith, next_published T k X v c.loop-c.t c.loop-c.c w c.loop-c-test.true c.next-step.result e)

pub overflow_mul-c : goal.overflow_mul-c
overflow_mul-c c =
    omega (arith, c.loop-c.invariant.1.few, c.loop-c.invariant.0.headed.limited.published_most)

pub overflow_add-totals : goal.overflow_add-totals
overflow_add-totals c =
    let m = c.loop-c.invariant.0.headed.limited in
    omega (arith, c.loop-c.invariant.1.few, m.published_most, m.sheet_most, c.totals_place-totals.ensures)

pub add_words-requires : goal.add_words-requires
add_words-requires c =
    let T = c.args.t.now in
    let k = c.args.k in
    let X = c.args.xs.now in
    let v = c.loop-c.invariant.0 in
    let w = c.loop-c.invariant.1 in
    let e = rw c.sheet_part.ensures at c.next-step.ensures in
    rw c.totals_place-totals.ensures (added_addable T k X v c.loop-c.t c.loop-c.c w c.loop-c-test.true c.next-step.result e)

pub loop-c-smaller : goal.loop-c-smaller
loop-c-smaller c =
    let T = c.args.t.now in
    let k = c.args.k in
    let X = c.args.xs.now in
    let v = c.loop-c.invariant.0 in
    let w = c.loop-c.invariant.1 in
    let e = rw c.sheet_part.ensures at c.next-step.ensures in
    added_less T k X v c.loop-c.t c.loop-c.c w c.loop-c-test.true c.next-step.result e

pub loop-c-preserved : goal.loop-c-preserved
loop-c-preserved c =
    let T = c.args.t.now in
    let k = c.args.k in
    let X = c.args.xs.now in
    let v = c.loop-c.invariant.0 in
    let w = c.loop-c.invariant.1 in
    let e = rw c.sheet_part.ensures at c.next-step.ensures in
    let f = rw c.totals_place-totals.ensures at c.add_words.ensures in
    (v, added_turn T k X v c.loop-c.t c.loop-c.c w c.loop-c-test.true c.next-step.result e _ f)

pub shape_of-t : goal.shape_of-t
shape_of-t c = c.loop-c.invariant.1.same

pub returns : goal.returns
returns c =
    let T = c.args.t.now in
    let k = c.args.k in
    let X = c.args.xs.now in
    let v = c.loop-c.invariant.0 in
    let w = c.loop-c.invariant.1 in
    added_all T k X v c.loop-c.t c.loop-c.c w c.loop-c-test.false
