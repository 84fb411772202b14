-- `words::write_u16`: the part lent for the bytes is put back (`part_put`). Assumes nothing.
use Rattle.std.proofs.Common.{arith}
use Rattle.words.specs.Bytes.{bytes_of}
use Rattle.words.proofs.Loops.{part_put}
use Rattle.words.proofs.write_u16.Goals as goal

pub returns : goal.returns
unfolding bytes_of
returns c =
    rw (c.copy_from_slice.ensures.after, c.to_le_bytes.ensures)
    (part_put c.args.at _ c.args.s.now (bytes_of 2 c.args.n) (omega arith) c.requires (omega arith))
