-- `pool_totals::pool_join` meets its contract: by the cases of joining's answer. Assumes nothing.
use mathlib.Core.Path.{ap, ◌∙◌}
use Rattle.records.specs.Refusals.{fault_of}
use Rattle.pool_totals.proofs.Totals.{join_refused, join_done}
use Rattle.pool_totals.proofs.pool_join.Goals as goal
use Rattle.pool_totals.proofs.pool_join.Goals.{in-Ok, in_default}

pub returns : goal.returns
returns c =
    elim c.match-totals.branch [
      | in-Ok w ↦
          rw (c.number_of.ensures ∙ ap fault_of w.totals-is, w.accepted-is, w.written-is)
          (join_done _ _ _ _ _ _ _ _ _ w.in-Ok.ensures)
      | in_default w ↦
          rw (c.number_of.ensures ∙ ap fault_of (w.totals-is ∙ w.in_default.is), w.accepted-is, w.written-is)
          (join_refused _ _ _ _ _ _ _ _ _ w.in_default.ensures)
    ]
