-- `table::read` meets its contract: the header's facts are what the parts of the judgement ask for, and the first
-- part that fails, or none, decides what is found (`found_counts` and so on). Assumes nothing.
use mathlib.Core.Path.{◌≡◌, sym, ◌∙◌}
use mathlib.Core.Bool.{Bool, true}
use native.Mathlib.Omega.{arith}
use lib.ListN.{length}
use Rattle.records.proofs.Refusals.{outcome_passed}
use Rattle.rules.specs.Table.{Lent}
use Rattle.rules.specs.WaitingList.{waiting_count}
use Rattle.layout.specs.declared.Table.{Table}
use Rattle.waiting.specs.Changes.{lent}
use Rattle.table.specs.Reading.{counts_sound_at, totals_sound_at, Headed, found_in}
use Rattle.table.proofs.Answers.{found_by, records_keep, headed, whole}
use Rattle.table.proofs.Answers.{found_headless, found_counts, found_totals, found_records}
use Rattle.table.proofs.read.Goals as goal
use Rattle.table.proofs.read.Goals.{else-counts_sound-via-else-counts_sound, else-counts_sound-via-then-counts_sound+else-totals_sound}
use Rattle.table.proofs.read.Goals.{else-counts_sound-via-then-counts_sound+then-totals_sound+else-sound}

-- where all but the records are judged, they decide
decided : (T : Lent) (k : Table) → Headed T.bytes k → counts_sound_at k (waiting_count T.slots) T.bytes ≡ true
    → totals_sound_at k T.bytes ≡ true → length T.slots ≡ 8 → (b : Bool) → b ≡ records_keep k T → found_by b k ≡ found_in T
decided T k h c t eight b e = rw e (found_records T k h c t eight)

pub returns-in_err-k : goal.returns-in_err-k
returns-in_err-k c =
    outcome_passed _ _ c.from_residual.ensures.1
    ∙ found_headless (lent c.args.t.now c.args.list c.args.numbers.now) _ (sym c.in_err-k.ensures)

pub counts_sound-requires : goal.counts_sound-requires
counts_sound-requires c = headed c.args.t.now c.in_ok-k.k (sym c.in_ok-k.ensures)

pub totals_sound-requires : goal.totals_sound-requires
totals_sound-requires c =
    let t = c.args.t.now in
    let k = c.in_ok-k.k in
    whole t k _ (headed t k (sym c.in_ok-k.ensures)) (sym (rw c.count.ensures at c.counts_sound.ensures) ∙ c.if-counts_sound.true)

pub place_size-requires : goal.place_size-requires
place_size-requires c = (headed c.args.t.now c.in_ok-k.k (sym c.in_ok-k.ensures)).limited

pub sound-requires : goal.sound-requires
sound-requires c =
    let l = (headed c.args.t.now c.in_ok-k.k (sym c.in_ok-k.ensures)).limited in
    (omega (arith, c.place_size.ensures), omega (arith, c.place_size.ensures, l.entries_most, l.gates_most))

pub returns-then-sound : goal.returns-then-sound
returns-then-sound c =
    let a = c.args in
    let k = c.in_ok-k.k in
    let header = headed a.t.now k (sym c.in_ok-k.ensures) in
    let counts = sym (rw c.count.ensures at c.counts_sound.ensures) ∙ c.if-counts_sound.true in
    let totals = sym c.totals_sound.ensures ∙ c.if-totals_sound.true in
    let eight : length a.list ≡ 8 = omega arith in
    rw c.if-sound.true at
    (decided (lent a.t.now a.list a.numbers.now) k header counts totals eight _ (rw c.place_size.ensures at c.sound.ensures))

pub returns-else-counts_sound : goal.returns-else-counts_sound
returns-else-counts_sound c =
    let a = c.args in
    let k = c.in_ok-k.k in
    let T = lent a.t.now a.list a.numbers.now in
    let header = headed a.t.now k (sym c.in_ok-k.ensures) in
    let counts = sym (rw c.count.ensures at c.counts_sound.ensures) in
    let eight : length a.list ≡ 8 = omega arith in
    elim c.else-counts_sound.branch [
      | else-counts_sound-via-else-counts_sound w ↦ found_counts T k header (counts ∙ w.if-counts_sound.false)
      | else-counts_sound-via-then-counts_sound+else-totals_sound w ↦
          found_totals T k header (counts ∙ w.if-counts_sound.true) (sym w.totals_sound.ensures ∙ w.if-totals_sound.false)
      | else-counts_sound-via-then-counts_sound+then-totals_sound+else-sound w ↦
          rw w.if-sound.false at
          (decided T k header (counts ∙ w.if-counts_sound.true) (sym w.totals_sound.ensures ∙ w.if-totals_sound.true) eight _
          (rw w.place_size.ensures at w.sound.ensures))
    ]
