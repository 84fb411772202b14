-- `compile::put_pair` meets its contract: the kind byte and the wire, then the second number. Assumes nothing.
use native.Mathlib.Omega.{arith}
use Rattle.compile.proofs.Puts.{put_number, put_on}
use Rattle.compile.proofs.put_pair.Goals as goal

pub write_u16-requires : goal.write_u16-requires
write_u16-requires c = omega (arith, c.put_one-next.ensures)

pub returns : goal.returns
returns c =
    let a = c.args in
    put_on c.put_one-next.ensures
    (put_number c.put_one-next.new.out c.put_one-next.result 2 a.b _ c.write_u16.ensures (omega arith))
