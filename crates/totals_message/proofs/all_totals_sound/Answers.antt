-- `totals_message::all_totals_sound` meets its contract. The loop's invariant: the answer is that of the messages from i on
-- (`every_next`); the part that is judged is the one at server i's place (`span`). Assumes nothing.
use mathlib.Core.Path.{sym, ◌∙◌}
use Prim.Native.Nat.{◌*◌}
use Rattle.totals_message.specs.Totals.{totals_bytes, totals_sound_at, all_totals_sound}
use Rattle.steps.proofs.Every.{every_start, every_next, every_not, every_end}
use Rattle.steps.proofs.Parts.{span}
use Rattle.totals_message.proofs.all_totals_sound.Goals as goal

pub loop-i-init : goal.loop-i-init
unfolding all_totals_sound
loop-i-init c =
    let a = c.args in
    every_start (totals_sound_at a.published a.count a.joined.now) a.servers

pub returns-then-not-totals_sound : goal.returns-then-not-totals_sound
returns-then-not-totals_sound c =
    let a = c.args in
    let l = c.loop-i in
    let n = totals_bytes a.published in
    let t = totals_sound_at a.published a.count a.joined.now in
    let bad = rw (span (n * l.i) n a.joined.now) at (sym c.totals_sound.ensures ∙ c.if-not-totals_sound.true) in
    sym (l.invariant ∙ every_not t a.servers l.i c.loop-i-test.true bad)

pub loop-i-preserved : goal.loop-i-preserved
loop-i-preserved c =
    let a = c.args in
    let l = c.loop-i in
    let n = totals_bytes a.published in
    let t = totals_sound_at a.published a.count a.joined.now in
    let good = rw (span (n * l.i) n a.joined.now) at (sym c.totals_sound.ensures ∙ c.if-not-totals_sound.false) in
    l.invariant ∙ every_next t a.servers l.i c.loop-i-test.true good

pub returns : goal.returns
returns c =
    let a = c.args in
    let l = c.loop-i in
    sym (l.invariant ∙ every_end (totals_sound_at a.published a.count a.joined.now) a.servers l.i c.loop-i-test.false)
