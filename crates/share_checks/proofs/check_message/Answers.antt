-- `share_checks::check_message` meets its contract: a header that is not refused has behind it a seed, which passes
-- (`message_seed`), or elements, which decide (`message_sound`, `message_over`). Assumes nothing.
use mathlib.Core.Path.{sym, ◌∙◌}
use Rattle.records.proofs.Refusals.{fault_passed}
use Rattle.share_checks.proofs.Faults.{message_header, message_seed, message_sound, message_over}
use Rattle.share_checks.proofs.check_message.Goals as goal
use Rattle.share_checks.proofs.check_message.Goals.{then-brings_seed, else-brings_seed}

pub returns-in_err-check_header : goal.returns-in_err-check_header
returns-in_err-check_header c =
    let a = c.args in
    fault_passed _ _ c.from_residual.ensures.1 ∙ message_header a.size a.own a.m.now _ c.in_err-check_header.ensures

pub returns-then-below : goal.returns-then-below
returns-then-below c =
    let a = c.args in
    let h = c.in_ok-check_header.ensures in
    elim c.if-brings_seed.branch [
      | then-brings_seed w ↦ message_seed a.size a.own a.m.now h (sym c.brings_seed.ensures ∙ w.if-brings_seed.true)
      | else-brings_seed w ↦
          message_sound a.size a.own a.m.now h (sym c.brings_seed.ensures ∙ w.if-brings_seed.false) a.x.now c.requires.1
          (sym w.below.ensures ∙ sym w.value-is ∙ c.if-below.true)
    ]

pub returns-else-below : goal.returns-else-below
returns-else-below c =
    let a = c.args in
    let h = c.in_ok-check_header.ensures in
    elim c.if-brings_seed.branch [
      | then-brings_seed w ↦ cc
      | else-brings_seed w ↦
          message_over a.size a.own a.m.now h (sym c.brings_seed.ensures ∙ w.if-brings_seed.false) a.x.now c.requires.1
          (sym w.below.ensures ∙ sym w.value-is ∙ c.if-below.false)
    ]
