-- `sizes::scales` meets its contract: published entries and multiplications are no more than entries. Assumes nothing.
use mathlib.Core.Path.{refl}
use native.Mathlib.Omega.{arith}
use Rattle.sizes.specs.Room.{scales_made}
use Rattle.sizes.proofs.scales.Goals as goal

pub returns : goal.returns
unfolding scales_made
returns c = (refl, omega (arith, c.requires))
