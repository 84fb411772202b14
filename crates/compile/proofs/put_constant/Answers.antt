-- `compile::put_constant` meets its contract: the kind byte, then the number. Assumes nothing.
use mathlib.Core.Path.{refl}
use mathlib.Core.List.{◌∷◌}
use Prim.Native.Nat.{◌+◌}
use native.Mathlib.Omega.{arith}
use lib.ListN.{set, length-set}
use Rattle.words.specs.Bytes.{bytes_of}
use Rattle.compile.proofs.Puts.{put_number, put_byte, put_on, put_as}
use Rattle.compile.proofs.put_constant.Goals as goal

pub write_u32-requires : goal.write_u32-requires
write_u32-requires c = simp length-set (omega arith)

pub returns : goal.returns
returns c =
    let a = c.args in
    let s = a.out.now in
    let at = a.at in
    let p = put_byte s at 1 (omega arith) in
    let q = put_number (set s at 1) (at + 1) 4 a.constant _ (rw c.code.ensures at c.write_u32.ensures) (omega arith) in
    put_as (put_on p q) 5 (1 ∷ bytes_of 4 a.constant) (at + 5) refl refl (omega arith)

pub shape_of-out : goal.shape_of-out
shape_of-out c = (returns c).same
