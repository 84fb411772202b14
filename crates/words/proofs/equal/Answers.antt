-- `words::equal`: two slices are compared place by place, as `same_bytes` is defined. Assumes nothing.
use Rattle.std.proofs.Common.{◌∙◌}
use Rattle.words.proofs.Same.{same_pointwise}
use Rattle.words.proofs.equal.Goals as goal

pub returns : goal.returns
returns c = c.eq.ensures ∙ same_pointwise c.args.a.now c.args.b.now
