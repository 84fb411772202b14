-- `share_checks::check_share` meets its contract: the three checks are rules' order (`in_turn_lem`), whatever the numbers are, and a
-- message that passes has a header (`fitting`). Assumes nothing.
use mathlib.Core.Path.{refl, ◌∙◌}
use borrow.Author.Rules.{rules}
use Rattle.records.proofs.Refusals.{fault_passed, first_counts, second_counts}
use Rattle.share_checks.proofs.Refusing.{in_turn_lem, fitting}
use Rattle.share_checks.proofs.check_share.Goals as goal

pub check_message-requires : goal.check_message-requires
check_message-requires c = (search rules, rw c.share_size.ensures c.requires.1)

pub returns-in_err-check_start : goal.returns-in_err-check_start
returns-in_err-check_start c = λ es.
    let a = c.args in
    fault_passed _ _ c.from_residual.ensures.1
    ∙ first_counts _ _ _ c.in_err-check_start.ensures
    ∙ in_turn_lem a.t.now a.list a.m.now a.r a.s a.room a.k c.requires.0 _ _ c.count-waiting.ensures refl es

pub returns-in_err-check_message : goal.returns-in_err-check_message
returns-in_err-check_message c = λ es.
    let a = c.args in
    fault_passed _ _ c.from_residual-in_err-check_message.ensures.1
    ∙ second_counts _ _ _ c.in_ok-check_start.ensures (first_counts _ _ _ c.in_err-check_message.ensures)
    ∙ in_turn_lem a.t.now a.list a.m.now a.r a.s a.room a.k c.requires.0 _ _ c.count-waiting.ensures c.share_size.ensures es

pub check_last-requires : goal.check_last-requires
check_last-requires c =
    let a = c.args in
    fitting a.t.now a.list a.m.now a.r a.s a.room a.k c.requires.0 _ _ c.count-waiting.ensures c.share_size.ensures c.in_ok-check_message.ensures

pub returns : goal.returns
returns c = λ es.
    let a = c.args in
    second_counts _ _ _ c.in_ok-check_start.ensures (second_counts _ _ _ c.in_ok-check_message.ensures c.check_last.ensures)
    ∙ in_turn_lem a.t.now a.list a.m.now a.r a.s a.room a.k c.requires.0 _ _ c.count-waiting.ensures c.share_size.ensures es
