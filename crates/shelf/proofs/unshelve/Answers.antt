-- `shelf::unshelve`: a refusal leaves the buffer, and without one every byte can be moved and is. Assumes nothing.
use Rattle.std.proofs.Common.{sym}
use Rattle.records.proofs.Refusals.{outcome_passed}
use Rattle.shelf.proofs.Refusals.{taken}
use Rattle.shelf.proofs.Answers.{is_refused, is_done}
use Rattle.shelf.proofs.Grids.{bringable, brought}
use Rattle.shelf.proofs.unshelve.Goals as goal

pub returns-in_err-check_shelf : goal.returns-in_err-check_shelf
returns-in_err-check_shelf c =
    is_refused _ _ _ _ _ _ _ (outcome_passed _ _ c.from_residual.ensures.1) c.in_err-check_shelf.ensures

pub move_all-requires : goal.move_all-requires
move_all-requires c =
    let t = taken _ _ _ _ (sym c.in_ok-check_shelf.ensures) in
    rw (c.by_place.ensures, c.by_message.ensures) (bringable _ _ _ _ t.0 t.1)

pub returns : goal.returns
returns c =
    let t = taken _ _ _ _ (sym c.in_ok-check_shelf.ensures) in
    is_done _ _ _ _ _ _ (sym c.in_ok-check_shelf.ensures) t.0 _
    (brought _ _ _ _ _ t.1 (rw (c.by_place.ensures, c.by_message.ensures) at c.move_all.ensures))
