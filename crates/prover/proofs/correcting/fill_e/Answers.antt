-- `prover::correcting::fill_e` meets its contract: one store, and the extras behind it. Assumes nothing.
use Rattle.prover.proofs.Behind.{behind_first}
use Rattle.prover.proofs.correcting.fill_e.Goals as goal

pub returns : goal.returns
returns c =
    let w = c.fill_extras in
    behind_first c.args.out.now _ c.requires.1 w.new.out w.auto.out w.ensures
