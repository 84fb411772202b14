-- `sizes::kind_size` meets its contract: the table keeps its rule, and no body is longer than 6. Assumes nothing.
use mathlib.Core.Path.{◌≡◌}
use Prim.Native.Nat.{ℕ, ◌+◌, ◌-◌, ◌≤◌}
use native.Mathlib.Nat.{mul-le-mul, mul-le-mul_left}
use native.Mathlib.Omega.{arith}
use lib.ListN.{get_or}
use Rattle.circuit.specs.Reading.{code_of}
use Rattle.circuit.proofs.StepLaws.{code_low, code_high}
use Rattle.sizes.proofs.Room.{length_at, length_most, length_is}
use Rattle.sizes.proofs.kind_size.Goals as goal
use Rattle.sizes.proofs.kind_size.Goals.{After-code}

-- the body length of the kind in the table
module _ (c : After-code) where
  abbrev entry : ℕ
  entry = get_or c.args.lengths.now (c.code.result - 1) 0

  entry_is : entry ≡ length_at (code_of c.args.kind - 1)
  entry_is =
      let k = c.args.kind in
      rw c.code.ensures (length_is c.requires.0 (code_of k - 1) (omega (arith, code_low k, code_high k)))

  few : 1 + entry ≤ 7
  few =
      let k = c.args.kind in
      omega (arith, entry_is, length_most (code_of k - 1) (omega (arith, code_low k, code_high k)))

pub overflow_add-result : goal.overflow_add-result
overflow_add-result c = omega (arith, few (goal.at.overflow_add-result c).After-code)

pub overflow_mul-result : goal.overflow_mul-result
overflow_mul-result c = omega (arith, mul-le-mul c.requires.1 (few (goal.at.overflow_mul-result c).After-code))

pub returns : goal.returns
returns c =
    let a = (goal.at.returns c).After-code in
    (rw (entry_is a) (omega arith), omega (arith, mul-le-mul_left c.args.n (few a)))
