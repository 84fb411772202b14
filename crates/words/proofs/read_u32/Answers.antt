-- `words::read_u32`: the bytes are taken place by place (`value_places`). Assumes nothing.
use Rattle.std.proofs.Common.{add-zero, arith}
use Rattle.words.proofs.Loops.{value_places}
use Rattle.words.proofs.read_u32.Goals as goal

pub returns : goal.returns
returns c =
    let p = simp add-zero at (value_places c.args.s.now c.args.at 0 4 (omega arith)) in
    omega (arith, c.from_le_bytes.ensures, p)
