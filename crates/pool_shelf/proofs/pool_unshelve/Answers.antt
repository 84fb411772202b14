-- `pool_shelf::pool_unshelve` meets its contract: that of bringing messages back. Assumes nothing.
use Rattle.records.proofs.Answers.{writes}
use Rattle.pool_shelf.proofs.pool_unshelve.Goals as goal

pub returns : goal.returns
returns c =
    let s = c.unshelve.ensures in
    writes _ _ _ _ _ _ _ _ _ s.answer_is s.out_is c.hand_back.ensures.number c.hand_back.ensures.length
