-- `pool_sheets::pool_every_return` meets its contract: by the cases of the writer's answer. Assumes nothing.
use mathlib.Core.Path.{sym}
use Rattle.pool_sheets.proofs.EveryReturns.{lists_refused, lists_written}
use Rattle.pool_sheets.proofs.pool_every_return.Goals as goal
use Rattle.pool_sheets.proofs.pool_every_return.Goals.{in-Ok, in_default}

pub returns : goal.returns
returns c =
    elim c.match-answer.branch [
      | in-Ok w ↦
          rw (c.number_of.ensures, w.answer-is, w.lists-is, w.written-is)
          (lists_written _ _ _ _ _ w.in-Ok.ensures.1 _ (sym w.in-Ok.ensures.0))
      | in_default w ↦
          rw (c.number_of.ensures, w.answer-is, w.in_default.is, w.lists-is, w.written-is)
          (lists_refused _ _ _ _ _ w.in_default.ensures.1 _ (sym w.in_default.ensures.0))
    ]
