-- `pool_shelf::pool_shelve` meets its contract: that of storing messages by place. Assumes nothing.
use Rattle.records.proofs.Answers.{writes}
use Rattle.pool_shelf.proofs.pool_shelve.Goals as goal

pub returns : goal.returns
returns c =
    let s = c.shelve.ensures in
    writes _ _ _ _ _ _ _ _ _ s.answer_is s.out_is c.hand_back.ensures.number c.hand_back.ensures.length
