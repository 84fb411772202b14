-- `sizes::greatest_returns` meets its contract: the lesser of the quotient and the limit. Assumes nothing.
use native.Mathlib.Omega.{arith}
use Rattle.sizes.specs.Room.{greatest_of}
use Rattle.sizes.proofs.greatest_returns.Goals as goal

pub returns : goal.returns
unfolding greatest_of
returns c = omega (arith, c.min.ensures)
