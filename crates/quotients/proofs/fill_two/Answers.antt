-- `quotients::fill_two`: its table passes the test (`all_tested`).
use Rattle.std.proofs.Common.{arith, refl}
use Rattle.std.proofs.Math.Dec.{lit<}
use Rattle.quotients.proofs.Tested.{all_tested}
use Rattle.quotients.proofs.fill_two.Goals as goal

pub weigh-requires-clause-inverses : goal.weigh-requires-clause-inverses
weigh-requires-clause-inverses c = (all_tested _ refl (lit< tt), omega arith)

pub weigh-requires-2-clause-inverses : goal.weigh-requires-2-clause-inverses
weigh-requires-2-clause-inverses c = (all_tested _ refl (lit< tt), omega arith)
