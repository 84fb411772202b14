-- `pool_sheets::pool_circuit` meets its contract: that of the circuit writer. Assumes nothing.
use Rattle.compile.specs.Writing.{written_of, circuit_in}
use Rattle.records.proofs.Answers.{writes}
use Rattle.pool_sheets.proofs.pool_circuit.Goals as goal

pub returns : goal.returns
unfolding written_of circuit_in
returns c =
    let w = c.write.ensures in
    writes _ _ _ _ _ _ _ _ _ w.0 w.1 c.hand_back.ensures.number c.hand_back.ensures.length
