-- `sizes::columns_wires` meets its contract: each count is far from its type's limit. Assumes nothing.
use mathlib.Core.Path.{refl}
use Rattle.sizes.specs.Room.{wires_made}
use Rattle.sizes.proofs.columns_wires.Goals as goal

pub returns : goal.returns
unfolding wires_made
returns c = rw (c.scales.ensures.0, c.adds.ensures.0) refl
