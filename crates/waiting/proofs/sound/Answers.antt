-- `waiting::sound` meets its contract. The loop's invariant: `at` is where the place of record i starts, and the answer is that of
-- the records from i on, those before keep to the limits (`sound_next`); the measure is what is left of the places. Assumes nothing.
use mathlib.Core.Path.{◌≡◌, refl, sym, ◌∙◌}
use Prim.Native.Nat.{ℕ, ◌+◌, ◌*◌, ◌≤◌, ◌<◌}
use native.Mathlib.Omega.{arith}
use lib.Dec.{lit≤}
use lib.ListN.{length}
use Rattle.steps.proofs.Parts.{span}
use Rattle.waiting.proofs.Places.{sound_next, sound_not, sound_end, place_within, one_of_eight, past_eight, run_short, run_enough}
use Rattle.waiting.proofs.sound.Goals as goal

-- the record whose place starts at `at`, before the end, is one of the eight, and its place ends within the run
turn : (z i at : ℕ) → at ≡ z * i → at < 8 * z → i < 8
turn z i at e h = one_of_eight z i (omega arith)

within : (z i at n : ℕ) → at ≡ z * i → at < 8 * z → 8 * z ≤ n → at + z ≤ n
within z i at n e h k = let last : z * i + z ≤ z * 8 = place_within z i (turn z i at e h) in omega arith

pub returns-then-numbers-end : goal.returns-then-numbers-end
returns-then-numbers-end c =
    let a = c.args in
    run_short a.gates a.size a.list a.numbers.now (omega (arith, c.if-numbers-end.true))

pub loop-at-init : goal.loop-at-init
loop-at-init c = (lit≤ tt, omega arith, refl)

pub overflow_add-next : goal.overflow_add-next
overflow_add-next c =
    let l = c.loop-at in
    omega (arith, within c.args.size l.i l.at (length c.args.numbers.now) l.invariant.1 c.loop-at-test.true c.if-numbers-end.false)

pub offset_bounds-list-i : goal.offset_bounds-list-i
offset_bounds-list-i c = let l = c.loop-at in omega (arith, turn c.args.size l.i l.at l.invariant.1 c.loop-at-test.true)

pub bounds-list-i : goal.bounds-list-i
bounds-list-i c = let l = c.loop-at in omega (arith, turn c.args.size l.i l.at l.invariant.1 c.loop-at-test.true)

pub offset_bounds-numbers-at : goal.offset_bounds-numbers-at
offset_bounds-numbers-at c =
    let l = c.loop-at in
    omega (arith, within c.args.size l.i l.at (length c.args.numbers.now) l.invariant.1 c.loop-at-test.true c.if-numbers-end.false)

pub slice_bounds-record_sound-end : goal.slice_bounds-record_sound-end
slice_bounds-record_sound-end c =
    let l = c.loop-at in
    omega (arith, within c.args.size l.i l.at (length c.args.numbers.now) l.invariant.1 c.loop-at-test.true c.if-numbers-end.false)

pub returns-then-not-record_sound : goal.returns-then-not-record_sound
returns-then-not-record_sound c =
    let l = c.loop-at in
    let a = c.args in
    let n : length a.list ≡ 8 = omega arith in
    let listed : l.i < length a.list = omega (arith, n, turn a.size l.i l.at l.invariant.1 c.loop-at-test.true) in
    sym (l.invariant.2
    ∙ sound_not a.gates a.size a.numbers.now a.list l.i _ listed
    (rw (span, l.invariant.1) at (sym c.record_sound.ensures) ∙ c.if-not-record_sound.true))
    ∙ run_enough a.gates a.size a.list a.numbers.now (omega (arith, c.if-numbers-end.false))

pub overflow_add-i : goal.overflow_add-i
overflow_add-i c = let l = c.loop-at in omega (arith, turn c.args.size l.i l.at l.invariant.1 c.loop-at-test.true)

pub loop-at-smaller : goal.loop-at-smaller
loop-at-smaller c = omega (arith, c.loop-at-test.true, c.requires.0)

pub loop-at-preserved : goal.loop-at-preserved
loop-at-preserved c =
    let l = c.loop-at in
    let a = c.args in
    let one : l.i < 8 = turn a.size l.i l.at l.invariant.1 c.loop-at-test.true in
    let n : length a.list ≡ 8 = omega arith in
    let listed : l.i < length a.list = omega (arith, n, one) in (
      omega (arith, one),
      omega (arith, l.invariant.1),
      l.invariant.2
          ∙ sound_next a.gates a.size a.numbers.now a.list l.i _ listed
          (rw (span, l.invariant.1) at (sym c.record_sound.ensures) ∙ c.if-not-record_sound.false),
    )

pub returns : goal.returns
returns c =
    let l = c.loop-at in
    let a = c.args in
    let n : length a.list ≡ 8 = omega arith in
    let past : 8 ≤ l.i = past_eight a.size l.i c.requires.0 (omega (arith, l.invariant.1, c.loop-at-test.false)) in
    sym (l.invariant.2 ∙ sound_end a.gates a.size a.numbers.now a.list l.i (omega (arith, n, past)))
    ∙ run_enough a.gates a.size a.list a.numbers.now (omega (arith, c.if-numbers-end.false))
