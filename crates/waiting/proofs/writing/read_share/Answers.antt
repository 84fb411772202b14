-- `waiting::writing::read_share` meets its contract: the part that was lent is put back filled (`part_put`). Assumes nothing.
use Prim.Native.Nat.{◌+◌}
use native.Mathlib.Omega.{arith}
use Rattle.words.specs.Bytes.{elements_of}
use Rattle.words.proofs.Elements.{length_elements}
use Rattle.words.proofs.Loops.{part_put}
use Rattle.waiting.proofs.writing.read_share.Goals as goal

pub returns : goal.returns
returns c =
    let f = c.read in
    let g = c.args in
    rw f.ensures
    (part_put g.at (g.at + g.size) g.numbers.now (elements_of 4 g.x.now) (omega arith) c.requires.1
    (omega (arith, length_elements 4 g.x.now, c.requires.0)))
