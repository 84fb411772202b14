-- `compile::put_scale` meets its contract: the kind byte and the wire, then the second number. Assumes nothing.
use native.Mathlib.Omega.{arith}
use Rattle.compile.proofs.Puts.{put_number, put_on}
use Rattle.compile.proofs.put_scale.Goals as goal

pub write_u32-requires : goal.write_u32-requires
write_u32-requires c = omega (arith, c.put_one-next.ensures)

pub returns : goal.returns
returns c =
    let a = c.args in
    put_on c.put_one-next.ensures
    (put_number c.put_one-next.new.out c.put_one-next.result 4 a.constant _ c.write_u32.ensures (omega arith))
