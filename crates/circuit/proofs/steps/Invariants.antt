-- `circuit::steps` meets its contract. The loop's invariant: the steps up to `at` are read and counted (`ReadTo`). Assumes nothing.
use Prim.Native.Nat.{◌-◌}
use lib.ListN.{length}
use Rattle.circuit.proofs.StepLaws.{ReadTo}
use Rattle.circuit.proofs.steps.Given as goal

abbrev pub invariant-loop-at : goal.invariant-loop-at
invariant-loop-at l = ReadTo l.entries l.s l.at l.counts

abbrev pub decreases-loop-at : goal.decreases-loop-at
decreases-loop-at l = length l.s - l.at
