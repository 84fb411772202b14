-- `share_message::share_part` meets its contract. Where the header is refused the definition is the empty part; else the message
-- has its length, and the part goes to its end (`to_end`). Assumes nothing.
use mathlib.Core.Path.{sym, ◌∙◌}
use native.Mathlib.Omega.{arith}
use borrow.Author.Tests.{ne_eqb}
use Rattle.records.proofs.Refusals.{number_nonzero}
use Rattle.share_message.specs.Shares.{share_part}
use Rattle.steps.proofs.Parts.{to_end}
use Rattle.share_message.proofs.Shares.{header_long, part_sound}
use Rattle.share_message.proofs.share_part.Goals as goal

pub slice_bounds-result-count : goal.slice_bounds-result-count
slice_bounds-result-count c = omega (arith, header_long _ _ _ (sym c.in-Ok.ensures))

pub slice_bounds-result-start : goal.slice_bounds-result-start
slice_bounds-result-start c = omega (arith, header_long _ _ _ (sym c.in-Ok.ensures))

pub returns-in-Ok : goal.returns-in-Ok
returns-in-Ok c =
    let a = c.args in
    to_end 6 a.m.now ∙ sym (part_sound a.size a.own a.m.now (sym c.in-Ok.ensures))

pub returns-in-Err : goal.returns-in-Err
unfolding share_part
returns-in-Err c = simp (ne_eqb _ _ (λ z. number_nonzero c.in-Err.field-0 (c.in-Err.ensures ∙ z)))
