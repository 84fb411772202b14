-- `sizes::sizes_from` meets its contract: each number is that of a function before it, and all are small. Assumes nothing.
use mathlib.Core.Path.{refl}
use native.Mathlib.Omega.{arith}
use Rattle.sizes.specs.Room.{sizes_from}
use Rattle.sizes.proofs.Room.{steps_most, wires_most}
use Rattle.sizes.proofs.sizes_from.Goals as goal

pub overflow_add-result : goal.overflow_add-result
overflow_add-result c =
    omega (arith, c.columns_wires.ensures, wires_most c.args.c c.requires.0)

pub overflow_cast-result-6 : goal.overflow_cast-result-6
overflow_cast-result-6 c =
    omega (arith, c.circuit_size.ensures, steps_most c.args.c c.requires.0)

pub returns : goal.returns
unfolding sizes_from
returns c =
    rw (c.greatest_returns.ensures, c.circuit_size.ensures, c.columns_wires.ensures, c.share_size.ensures) refl
