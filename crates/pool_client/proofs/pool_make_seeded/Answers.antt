-- `pool_client::pool_make_seeded` meets its contract: that of making from seeds. Assumes nothing.
use Rattle.records.proofs.Answers.{writes}
use Rattle.pool_client.proofs.pool_make_seeded.Goals as goal

pub returns : goal.returns
returns c =
    let m = c.make_seeded.ensures in
    writes _ _ _ _ _ _ _ _ _ m.answer_is m.out_is c.hand_back.ensures.number c.hand_back.ensures.length
