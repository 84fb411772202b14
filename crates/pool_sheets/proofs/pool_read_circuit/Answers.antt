-- `pool_sheets::pool_read_circuit` meets its contract: by the cases of the reader's answer. Assumes nothing.
use mathlib.Core.Path.{sym}
use Rattle.pool_sheets.proofs.Circuits.{circuit_refused, circuit_counted}
use Rattle.pool_sheets.proofs.pool_read_circuit.Goals as goal
use Rattle.pool_sheets.proofs.pool_read_circuit.Goals.{in-Ok, in_default}

pub returns : goal.returns
returns c =
    elim c.match-answer.branch [
      | in-Ok w ↦
          rw (c.number_of.ensures, w.answer-is, w.wires-is, w.multiplications-is, w.tests-is)
          (circuit_counted _ _ _ _ _ _ (sym w.in-Ok.ensures))
      | in_default w ↦
          rw (c.number_of.ensures, w.answer-is, w.in_default.is, w.wires-is, w.multiplications-is, w.tests-is)
          (circuit_refused _ _ _ _ _ _ (sym w.in_default.ensures))
    ]
