-- `compile::put_column` meets its contract: each arm is one case of the definition. Assumes nothing.
use Prim.Native.Nat.{◌≤◌}
use native.Mathlib.Omega.{arith}
use Rattle.rules.specs.Circuit.{column_steps}
use Rattle.rules.proofs.Circuits.BitLength.{bit_length_lem}
use Rattle.compile.proofs.Columns.{yes_no_size}
use Rattle.compile.proofs.put_column.Goals as goal
use Rattle.compile.proofs.put_column.Goals.{After-bit_length}

pub bit_checks-requires : goal.bit_checks-requires
bit_checks-requires c =
    let room = rw (c.in-YesNo.is, yes_no_size) at c.requires.0 in
    (room, omega arith, omega arith, omega arith)

pub overflow_cast-n : goal.overflow_cast-n
overflow_cast-n c =
    let few = rw c.in-Choice.is at c.requires.1 in
    omega arith

pub put_choice-requires : goal.put_choice-requires
put_choice-requires c =
    let few = rw c.in-Choice.is at c.requires.1 in
    let room = rw c.in-Choice.is at c.requires.0 in
    (room, few.1, c.requires.2, c.requires.3)

pub overflow_cast-n-in-Number : goal.overflow_cast-n-in-Number
overflow_cast-n-in-Number c =
    let few = rw c.in-Number.is at c.requires.1 in
    omega arith

pub put_number-requires : goal.put_number-requires
put_number-requires c =
    let few = rw c.in-Number.is at c.requires.1 in
    let room = rw c.in-Number.is at c.requires.0 in
    (room, few.1, c.requires.2, c.requires.3)

pub bit_length-requires : goal.bit_length-requires
bit_length-requires c =
    rw c.in-Top.is at c.requires.1

-- the bits of a top
few : (c : After-bit_length) → c.bit_length.result ≤ 24
few c =
    let l = rw c.in-Top.is at c.requires.1 in
    omega (arith, c.bit_length.ensures, (bit_length_lem _ l.0 l.1).bits_most)

pub overflow_cast-bit_length : goal.overflow_cast-bit_length
overflow_cast-bit_length c = omega (arith, few (goal.at.overflow_cast-bit_length c).After-bit_length)

pub put_top-requires : goal.put_top-requires
put_top-requires c =
    let l = rw c.in-Top.is at c.requires.1 in
    let room = rw c.in-Top.is at c.requires.0 in
    (room, l.1, c.bit_length.ensures, few (goal.at.put_top-requires c).After-bit_length, c.requires.2, c.requires.3)

pub overflow_cast-n-in-Point : goal.overflow_cast-n-in-Point
overflow_cast-n-in-Point c =
    let few = rw c.in-Point.is at c.requires.1 in
    omega arith

pub put_point-requires : goal.put_point-requires
put_point-requires c =
    let few = rw c.in-Point.is at c.requires.1 in
    let room = rw c.in-Point.is at c.requires.0 in
    (room, few.1, c.requires.2, c.requires.3)

pub returns-in-YesNo : goal.returns-in-YesNo
unfolding column_steps
returns-in-YesNo c =
    rw (c.in-YesNo.is, yes_no_size) c.bit_checks.ensures

pub returns-in-Choice : goal.returns-in-Choice
returns-in-Choice c = rw c.in-Choice.is c.put_choice.ensures

pub returns-in-Number : goal.returns-in-Number
returns-in-Number c = rw c.in-Number.is c.put_number.ensures

pub returns-in-Top : goal.returns-in-Top
returns-in-Top c = rw c.in-Top.is c.put_top.ensures

pub returns-in-Point : goal.returns-in-Point
returns-in-Point c = rw c.in-Point.is c.put_point.ensures
