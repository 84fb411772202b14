-- `values::write_point`: behind two numbers and their products stand the bits of each. The products fit, since x is below 2^12 and
-- x × y no more than the value. Assumes nothing.
use mathlib.Core.Path.{◌≡◌, ap, ◌∙◌}
use mathlib.Core.List.{List, ◌++◌}
use Prim.Native.Nat.{ℕ, ◌+◌, ◌-◌, ◌*◌, ◌/◌, ◌%◌, ◌^◌, ◌≤◌, ◌<◌}
use native.Mathlib.Nat.{pow-le-pow_right, mul-le-mul, mul-le-mul_right, mod-lt, mul-div-le}
use native.Mathlib.Omega.{arith}
use borrow.Rule.Slice.PartMut.{put_mid, mid_len, same_len_mid}
use lib.ListN.{length, drop, length-append, length-drop}
use lib.Pow.{pow_pos}
use lib.Seq.{length-take-le}
use Rattle.rules.specs.Columns.{entries_of}
use Rattle.values.proofs.Parts.{put_point, bits}
use Rattle.values.proofs.write_point.Goals as goal

-- the products of the two numbers of v
module _ (n v m : ℕ) (few : n ≤ 12) (m-is : m ≡ 2 ^ n) where
  some : 0 < m
  some = omega (arith, pow_pos n)

  square_fits : v % m * (v % m) < 4294967296
  square_fits =
      let p : 2 ^ n ≤ 2 ^ 12 = pow-le-pow_right (omega arith) few in
      let x : v % m ≤ 4096 = omega (arith, mod-lt v some) in
      omega (arith, mul-le-mul x x)

  product_fits : v < 4294967296 → v % m * (v / m) < 4294967296
  product_fits h =
      let x : v % m ≤ m = omega (arith, mod-lt v some) in
      omega (arith, mul-le-mul_right (v / m) x, mul-div-le v m)

pub copy_from_slice-requires : goal.copy_from_slice-requires
unfolding entries_of
copy_from_slice-requires c = length-take-le 4 c.args.out.now (omega (arith, c.requires.0))

pub returns : goal.returns
unfolding entries_of
returns c =
    let n = c.args.n in
    let v = c.args.v in
    let d = c.args.out.now in
    let p = c.copy_from_slice.new.self in
    let s : List ℕ = p ++ drop 4 d in
    let t : List ℕ = put_mid 4 (4 + n - 4) s c.write_bits.new.out in
    let size : length d ≡ 4 + 2 * n = c.requires.0 in
    let same : length s ≡ length d = omega (arith, length-append p (drop 4 d), length-drop 4 d, ap length c.copy_from_slice.ensures.after) in
    let whole : length t ≡ length s = same_len_mid 4 (4 + n - 4) s c.write_bits.new.out c.write_bits.auto.out in
    put_point n v _ _ d p c.write_bits.new.out c.write_bits-2.new.out
    (ap (λ (m : ℕ). v % m) c.power-range.ensures) (ap (λ (m : ℕ). v / m) c.power-range.ensures) size
    c.copy_from_slice.ensures.after
    (c.write_bits.ensures ∙ ap (bits _) (mid_len 4 (4 + n) s (omega arith) ∙ omega arith))
    (c.write_bits-2.ensures ∙ ap (bits _) (mid_len (4 + n) (length t) t (omega arith) ∙ omega arith))
