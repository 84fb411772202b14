-- `round_one::round_one` meets its contract: the return that is named is one that the functions below can take, and each way out
-- is a case of the definition (`first_unnamed`, `first_refused`, `first_done`). Assumes nothing.
use mathlib.Core.Path.{refl, ◌∙◌}
use Rattle.waiting.specs.Changes.{lent}
use Rattle.table.proofs.Waiting.{numbers_are}
use Rattle.rounds.proofs.Holding.{in_run}
use Rattle.rounds.proofs.Naming.{names}
use Rattle.round_one.proofs.FirstRound.{first_asks, first_unnamed, first_refused, first_ready, first_done}
use Rattle.round_one.proofs.round_one.Goals as goal

pub returns-in_err-named : goal.returns-in_err-named
returns-in_err-named c =
    let a = c.args in
    let T = lent a.table.now a.list a.numbers.now in
    first_unnamed T a.id a.joined.now a.out.now _ _ c.from_residual.ensures.1 c.in_err-named.ensures

pub check_one-requires : goal.check_one-requires
check_one-requires c =
    let a = c.args in
    let T = lent a.table.now a.list a.numbers.now in
    first_asks T a.id a.joined.now _ _ _ (names T a.id 1 c.in_ok-named.named c.in_ok-named.ensures)

pub returns-in_err-check_one : goal.returns-in_err-check_one
returns-in_err-check_one c =
    let a = c.args in
    let T = lent a.table.now a.list a.numbers.now in
    first_refused T a.id a.joined.now a.out.now _ (names T a.id 1 c.in_ok-named.named c.in_ok-named.ensures) _ _
    c.from_residual-in_err-check_one.ensures.1 c.in_err-check_one.ensures

pub numbers_at-ns-requires : goal.numbers_at-ns-requires
numbers_at-ns-requires c =
    let a = c.args in
    let T = lent a.table.now a.list a.numbers.now in
    let n = names T a.id 1 c.in_ok-named.named c.in_ok-named.ensures in
    in_run T _ _ n.waits

pub take_one-slot-requires : goal.take_one-slot-requires
take_one-slot-requires c =
    let a = c.args in
    let T = lent a.table.now a.list a.numbers.now in
    let n = names T a.id 1 c.in_ok-named.named c.in_ok-named.ensures in
    let m = c.numbers_at-ns.ensures ∙ numbers_are T _ n.waits.sound _ in
    first_ready T a.id a.joined.now a.out.now c.in_ok-named.named n 0 c.in_ok-check_one.ensures refl _ m

pub returns : goal.returns
returns c =
    let a = c.args in
    let T = lent a.table.now a.list a.numbers.now in
    let n = names T a.id 1 c.in_ok-named.named c.in_ok-named.ensures in
    let m = c.numbers_at-ns.ensures ∙ numbers_are T _ n.waits.sound _ in
    rw c.records.ensures
    (first_done T a.id a.joined.now a.out.now c.in_ok-named.named n 0 c.in_ok-check_one.ensures refl _ m _ _ c.take_one-slot.ensures.0
    c.take_one-slot.ensures.1)
