-- `prover::tables::fill_falls` meets its contract: a turn stores one product and works out the next. Assumes nothing.
use Rattle.prover.proofs.Falls.{Falling}
use Rattle.prover.proofs.tables.fill_falls.Given as goal

abbrev pub invariant-loop-i : goal.invariant-loop-i
invariant-loop-i l = Falling l.n l.initial.out l.out l.acc l.i
