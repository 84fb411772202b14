-- `words::write_u32`: the part lent for the bytes is put back (`part_put`). Assumes nothing.
use Rattle.std.proofs.Common.{◌≡◌, ◌/◌, arith}
use Rattle.words.specs.Bytes.{bytes_of}
use Rattle.words.proofs.Loops.{part_put}
use Rattle.words.proofs.write_u32.Goals as goal

pub returns : goal.returns
unfolding bytes_of
returns c =
    let v = c.args.v in
    let third : v / 65536 ≡ v / 256 / 256 = omega arith in
    let fourth : v / 16777216 ≡ v / 256 / 256 / 256 = omega arith in
    rw (c.copy_from_slice.ensures.after, c.to_le_bytes.ensures, third, fourth)
    (part_put c.args.at _ c.args.s.now (bytes_of 4 c.args.v) (omega arith) c.requires (omega arith))
