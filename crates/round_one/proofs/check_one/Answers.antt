-- `round_one::check_one` meets its contract: the buffer holds just the own message (`message_alone`), and the first check that
-- refuses counts. Assumes nothing.
use mathlib.Core.Path.{refl, ◌∙◌}
use mathlib.Core.List.{[], ◌∷◌}
use Rattle.records.proofs.Refusals.{fault_passed}
use Rattle.round_message.proofs.Writing.{message_alone}
use Rattle.round_one.proofs.FirstRound.{one_joined, one_whole, one_differ, one_short, one_none}
use Rattle.round_one.proofs.check_one.Goals as goal

pub returns-in_err-check_round : goal.returns-in_err-check_round
returns-in_err-check_round c =
    let a = c.args in
    let w = a.w in
    let own = message_alone 34 w.id a.k.own _ c.write_one.new.out (w.d ∷ w.e ∷ w.r ∷ w.s ∷ []) refl c.write_one.ensures in
    fault_passed _ _ c.from_residual.ensures.1 ∙ one_joined a.k w a.joined.now _ a.room (rw own at c.in_err-check_round.ensures)

pub check_challenges-requires : goal.check_challenges-requires
check_challenges-requires c =
    let a = c.args in
    let w = a.w in
    let own = message_alone 34 w.id a.k.own _ c.write_one.new.out (w.d ∷ w.e ∷ w.r ∷ w.s ∷ []) refl c.write_one.ensures in
    one_whole a.k w a.joined.now (rw own at c.in_ok-check_round.ensures) c.requires.0.servers_few

pub returns-in_err-check_challenges : goal.returns-in_err-check_challenges
returns-in_err-check_challenges c =
    let a = c.args in
    let w = a.w in
    let own = message_alone 34 w.id a.k.own _ c.write_one.new.out (w.d ∷ w.e ∷ w.r ∷ w.s ∷ []) refl c.write_one.ensures in
    fault_passed _ _ c.from_residual-in_err-check_challenges.ensures.1
    ∙ one_differ a.k w a.joined.now (rw own at c.in_ok-check_round.ensures) _ a.room c.in_err-check_challenges.ensures

pub returns-then-room-lt-LENGTH_TWO : goal.returns-then-room-lt-LENGTH_TWO
returns-then-room-lt-LENGTH_TWO c =
    let a = c.args in
    let w = a.w in
    let own = message_alone 34 w.id a.k.own _ c.write_one.new.out (w.d ∷ w.e ∷ w.r ∷ w.s ∷ []) refl c.write_one.ensures in
    one_short a.k w a.joined.now (rw own at c.in_ok-check_round.ensures) c.in_ok-check_challenges.ensures a.room
    c.if-room-lt-LENGTH_TWO.true

pub returns : goal.returns
returns c =
    let a = c.args in
    let w = a.w in
    let own = message_alone 34 w.id a.k.own _ c.write_one.new.out (w.d ∷ w.e ∷ w.r ∷ w.s ∷ []) refl c.write_one.ensures in
    one_none a.k w a.joined.now (rw own at c.in_ok-check_round.ensures) c.in_ok-check_challenges.ensures a.room
    c.if-room-lt-LENGTH_TWO.false
