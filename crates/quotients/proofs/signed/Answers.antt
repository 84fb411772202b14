-- `quotients::signed`: by the remainder modulo 2.
use Rattle.std.proofs.Common.{◌∙◌}
use Rattle.quotients.proofs.Signs.{signed_even, signed_odd}
use Rattle.quotients.proofs.signed.Goals as goal

pub returns-then-k-eq0 : goal.returns-then-k-eq0
returns-then-k-eq0 c = signed_even _ _ c.if-k-eq0.true c.requires

pub returns-else-k-eq0 : goal.returns-else-k-eq0
returns-else-k-eq0 c = c.neg.ensures ∙ signed_odd _ _ c.if-k-eq0.false c.requires
