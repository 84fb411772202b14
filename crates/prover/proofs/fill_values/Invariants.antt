-- `prover::fill_values` meets its contract: its loop fills the buffer by the rule of its values. Assumes nothing.
use lib.ListN.{length}
use Rattle.walk.proofs.Filling.{Filling}
use Rattle.prover.specs.Curves.{value_at}
use Rattle.prover.proofs.fill_values.Given as goal

abbrev pub invariant-loop-j : goal.invariant-loop-j
invariant-loop-j l = Filling (value_at (length l.tables.falls.now) l.y) l.initial.out l.out l.j
