-- `compile::put_one` meets its contract: the kind byte, then the number. Assumes nothing.
use mathlib.Core.Path.{refl}
use mathlib.Core.List.{◌∷◌}
use Prim.Native.Nat.{◌+◌}
use native.Mathlib.Omega.{arith}
use lib.ListN.{set, length-set}
use Rattle.words.specs.Bytes.{bytes_of}
use Rattle.circuit.specs.Reading.{code_of}
use Rattle.compile.proofs.Puts.{put_number, put_byte, put_on, put_as}
use Rattle.compile.proofs.put_one.Goals as goal

pub write_u16-requires : goal.write_u16-requires
write_u16-requires c = simp length-set (omega arith)

pub returns : goal.returns
returns c =
    let a = c.args in
    let s = a.out.now in
    let at = a.at in
    let k = code_of a.kind in
    let p = put_byte s at k (omega arith) in
    let q = put_number (set s at k) (at + 1) 2 a.a _ (rw c.code.ensures at c.write_u16.ensures) (omega arith) in
    put_as (put_on p q) 3 (k ∷ bytes_of 2 a.a) (at + 3) refl refl (omega arith)

pub shape_of-out : goal.shape_of-out
shape_of-out c = (returns c).same
