-- `sizes::steps_size` meets its contract: the bytes of each kind are added up. Assumes nothing.
use native.Mathlib.Omega.{arith}
use Rattle.sizes.proofs.Room.{steps_are}
use Rattle.sizes.proofs.steps_size.Goals as goal

pub overflow_add-result-5 : goal.overflow_add-result-5
overflow_add-result-5 c =
    omega (
      arith,
      c.requires.1,
      c.kind_size.ensures.1,
      c.kind_size-2.ensures.1,
      c.adds.ensures.1,
      c.kind_size-3.ensures.1,
      c.scales.ensures.1,
      c.kind_size-4.ensures.1,
      c.kind_size-5.ensures.1,
      c.kind_size-6.ensures.1,
    )

pub returns : goal.returns
returns c =
    rw (
      c.kind_size.ensures.0,
      c.kind_size-2.ensures.0,
      c.kind_size-3.ensures.0,
      c.adds.ensures.0,
      c.kind_size-4.ensures.0,
      c.scales.ensures.0,
      c.kind_size-5.ensures.0,
      c.kind_size-6.ensures.0,
    ) (steps_are c.args.c)
