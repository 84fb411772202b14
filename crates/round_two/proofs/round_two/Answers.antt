-- `round_two::round_two` meets its contract: the return that is named is one that the functions below can take, and each way out
-- is a case of the definition (`second_unnamed`, `second_refused`, `second_rejected`, `second_accepted`). Assumes nothing.
use mathlib.Core.Path.{◌∙◌}
use Rattle.waiting.specs.Changes.{lent}
use Rattle.table.proofs.Waiting.{numbers_are}
use Rattle.rounds.proofs.Holding.{in_run, sharing}
use Rattle.rounds.proofs.Naming.{names}
use Rattle.round_two.proofs.SecondRound.{second_unnamed, second_refused, second_summable, second_placed}
use Rattle.round_two.proofs.SecondRound.{second_rejected, second_accepted}
use Rattle.round_two.proofs.round_two.Goals as goal

pub returns-in_err-named : goal.returns-in_err-named
returns-in_err-named c =
    let a = c.args in
    let T = lent a.table.now a.list a.numbers.now in
    second_unnamed T a.id a.joined.now _ _ c.from_residual.ensures.1 c.in_err-named.ensures

pub numbers_at-requires : goal.numbers_at-requires
numbers_at-requires c =
    let a = c.args in
    let T = lent a.table.now a.list a.numbers.now in
    let n = names T a.id 2 c.in_ok-named.named c.in_ok-named.ensures in
    in_run T _ _ n.waits

pub check_two-requires : goal.check_two-requires
check_two-requires c =
    let a = c.args in
    let T = lent a.table.now a.list a.numbers.now in
    let n = names T a.id 2 c.in_ok-named.named c.in_ok-named.ensures in
    let m = c.numbers_at.ensures ∙ numbers_are T _ n.waits.sound _ in
    sharing T _ _ n.waits _ m _ n.says

pub returns-in_err-check_two : goal.returns-in_err-check_two
returns-in_err-check_two c =
    let a = c.args in
    let T = lent a.table.now a.list a.numbers.now in
    let n = names T a.id 2 c.in_ok-named.named c.in_ok-named.ensures in
    let m = c.numbers_at.ensures ∙ numbers_are T _ n.waits.sound _ in
    second_refused T a.id a.joined.now _ n _ m _ _ c.from_residual-in_err-check_two.ensures.1 c.in_err-check_two.ensures

pub verdict-accepted-requires : goal.verdict-accepted-requires
verdict-accepted-requires c =
    let a = c.args in
    let T = lent a.table.now a.list a.numbers.now in
    let n = names T a.id 2 c.in_ok-named.named c.in_ok-named.ensures in
    let m = c.numbers_at.ensures ∙ numbers_are T _ n.waits.sound _ in
    second_summable T a.id a.joined.now _ n _ m c.in_ok-check_two.ensures

pub decide-change-requires : goal.decide-change-requires
decide-change-requires c =
    let a = c.args in
    let T = lent a.table.now a.list a.numbers.now in
    second_placed T a.id a.joined.now _ (names T a.id 2 c.in_ok-named.named c.in_ok-named.ensures)

pub returns-then-accepted : goal.returns-then-accepted
returns-then-accepted c =
    let a = c.args in
    let T = lent a.table.now a.list a.numbers.now in
    let n = names T a.id 2 c.in_ok-named.named c.in_ok-named.ensures in
    let m = c.numbers_at.ensures ∙ numbers_are T _ n.waits.sound _ in
    rw c.records-change.ensures
    (second_accepted T a.id a.joined.now _ n _ m c.in_ok-check_two.ensures _ c.verdict-accepted.ensures c.if-accepted.true
    _ c.accepted_slot.ensures)

pub returns-else-accepted : goal.returns-else-accepted
returns-else-accepted c =
    let a = c.args in
    let T = lent a.table.now a.list a.numbers.now in
    let n = names T a.id 2 c.in_ok-named.named c.in_ok-named.ensures in
    let m = c.numbers_at.ensures ∙ numbers_are T _ n.waits.sound _ in
    second_rejected T a.id a.joined.now _ n _ m c.in_ok-check_two.ensures _ c.verdict-accepted.ensures c.if-accepted.false
    _ _ _ c.decide-change.ensures
