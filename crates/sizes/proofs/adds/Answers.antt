-- `sizes::adds` meets its contract: columns and products are no more than tests, products no more than multiplications.
-- Assumes nothing.
use mathlib.Core.Path.{refl}
use native.Mathlib.Omega.{arith}
use Rattle.sizes.specs.Room.{adds_made}
use Rattle.sizes.proofs.adds.Goals as goal

pub overflow_sub-result-2 : goal.overflow_sub-result-2
overflow_sub-result-2 c = omega (arith, c.requires)

pub returns : goal.returns
unfolding adds_made
returns c = (refl, omega (arith, c.requires))
