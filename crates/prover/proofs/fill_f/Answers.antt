-- `prover::fill_f` meets its contract: one store, and the inputs behind it. Assumes nothing.
use Rattle.prover.proofs.Behind.{behind_first}
use Rattle.prover.proofs.fill_f.Goals as goal

pub returns : goal.returns
returns c =
    let w = c.fill_lefts in
    (behind_first c.args.out.now _ c.requires.1 w.new.out w.auto.out w.ensures.0, w.ensures.1)
