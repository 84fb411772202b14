-- `pool_sheets::pool_sizes` meets its contract: by the cases of the measuring answer. Assumes nothing.
use mathlib.Core.Path.{sym}
use Rattle.pool_sheets.proofs.Sheets.{sizes_refused, sizes_told}
use Rattle.pool_sheets.proofs.pool_sizes.Goals as goal
use Rattle.pool_sheets.proofs.pool_sizes.Goals.{in-Ok, in_default}

pub returns : goal.returns
returns c =
    elim c.match-answer.branch [
      | in-Ok w ↦
          rw (c.number_of.ensures, w.answer-is, w.columns-is, w.entries-is, w.published-is, w.wires-is, w.multiplications-is, w.tests-is, w.circuit-is, w.share-is, w.greatest-is)
          (sizes_told _ _ _ (sym w.in-Ok.ensures))
      | in_default w ↦
          rw (c.number_of.ensures, w.answer-is, w.in_default.is, w.columns-is, w.entries-is, w.published-is, w.wires-is, w.multiplications-is, w.tests-is, w.circuit-is, w.share-is, w.greatest-is)
          (sizes_refused _ _ _ (sym w.in_default.ensures))
    ]
