-- `rounds::named::find` meets its contract: what a sound table gives is what the functions below ask for, and each way out is a
-- case of the definition (`named_absent`, `named_other`, `named_unsound`, `named_closed`, `named_found`). Assumes nothing.
use mathlib.Core.Path.{◌≡◌, sym, ◌∙◌}
use native.Mathlib.Omega.{arith}
use lib.ListN.{length}
use Rattle.records.proofs.Refusals.{outcome_passed}
use Rattle.waiting.specs.Changes.{lent}
use Rattle.waiting.specs.Stages.{stage_number}
use Rattle.table.proofs.Answers.{sound}
use Rattle.rounds.proofs.Holding.{in_run, held_asks, held_is}
use Rattle.rounds.proofs.Naming.{named_unsound, named_closed, named_absent, named_other, waits_under_lem, named_found, stage_is}
use Rattle.rounds.proofs.named.find.Goals as goal

pub returns-in_default : goal.returns-in_default
returns-in_default c =
    let a = c.args in
    let T = lent a.table.now a.list a.numbers.now in
    let eight : length a.list ≡ 8 = omega arith in
    named_absent T a.id (stage_number a.stage) eight (omega (arith, c.in_default.ensures.place))

pub returns-then-x-stage : goal.returns-then-x-stage
returns-then-x-stage c =
    let a = c.args in
    let T = lent a.table.now a.list a.numbers.now in
    named_other T a.id (stage_number a.stage)
    (rw (← stage_is a.stage, ← c.in-Some.ensures.place) c.if-x-stage.true)

pub returns-in_err-table : goal.returns-in_err-table
returns-in_err-table c =
    let a = c.args in
    let T = lent a.table.now a.list a.numbers.now in
    outcome_passed _ _ c.from_residual.ensures.1 ∙ named_unsound T a.id (stage_number a.stage) _ c.in_err-table.ensures

pub returns-then-table : goal.returns-then-table
returns-then-table c =
    let a = c.args in
    let T = lent a.table.now a.list a.numbers.now in
    named_closed T a.id (stage_number a.stage) _ (sound T c.in_ok-table.table (sym c.in_ok-table.ensures)) c.if-table.true

pub numbers_at-requires : goal.numbers_at-requires
numbers_at-requires c =
    let a = c.args in
    let T = lent a.table.now a.list a.numbers.now in
    let s = sound T c.in_ok-table.table (sym c.in_ok-table.ensures) in
    in_run T _ _ (waits_under_lem T a.id (stage_number a.stage) _ s _ c.in-Some.ensures.place c.in-Some.ensures.within)

pub share_size-requires : goal.share_size-requires
share_size-requires c =
    let a = c.args in
    let s = sound (lent a.table.now a.list a.numbers.now) c.in_ok-table.table (sym c.in_ok-table.ensures) in
    s.limited

pub held-waiting-requires : goal.held-waiting-requires
held-waiting-requires c =
    let a = c.args in
    let T = lent a.table.now a.list a.numbers.now in
    let s = sound T c.in_ok-table.table (sym c.in_ok-table.ensures) in
    let w = waits_under_lem T a.id (stage_number a.stage) _ s _ c.in-Some.ensures.place c.in-Some.ensures.within in
    held_asks T _ _ w _ c.numbers_at.ensures _ c.share_size.ensures

pub returns : goal.returns
returns c =
    let a = c.args in
    let T = lent a.table.now a.list a.numbers.now in
    let s = sound T c.in_ok-table.table (sym c.in_ok-table.ensures) in
    let w = waits_under_lem T a.id (stage_number a.stage) _ s _ c.in-Some.ensures.place c.in-Some.ensures.within in
    named_found T a.id (stage_number a.stage) _ s c.if-table.false _ c.in-Some.ensures.place c.in-Some.ensures.within (c.if-x-stage.false ∙ stage_is a.stage) _
    (c.held-waiting.ensures ∙ held_is T _ _ w _ c.numbers_at.ensures _ c.share_size.ensures)
