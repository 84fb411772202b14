-- `sizes::circuit_size` meets its contract: the table of body lengths keeps its rule, and a circuit has one constant more
-- than its columns. Assumes nothing.
use mathlib.Core.Path.{refl}
use Rattle.algebra.specs.Lists.{every, count_from}
use Rattle.circuit.proofs.BodyTable.{tested}
use Rattle.sizes.proofs.circuit_size.Goals as goal

pub steps_size-requires : goal.steps_size-requires
unfolding every count_from
steps_size-requires c = (tested _ refl, c.requires)

pub returns : goal.returns
returns c = c.steps_size.ensures
