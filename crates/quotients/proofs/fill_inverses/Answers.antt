-- `quotients::fill_inverses`: its table passes the test (`inverses_tested`).
use Rattle.std.proofs.Common.{refl, ◌∙◌}
use Rattle.std.proofs.Math.Dec.{lit<}
use Rattle.quotients.proofs.Tested.{inverses_tested}
use Rattle.quotients.proofs.fill_inverses.Goals as goal

pub returns : goal.returns
returns c = c.copy_from_slice.ensures.after ∙ inverses_tested _ _ refl (lit< tt) c.requires
