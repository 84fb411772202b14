-- `values::write_top`: behind a number and its bits stand those of what the top has past it. Assumes nothing.
use mathlib.Core.Path.{◌≡◌, ap, ap₂, ◌∙◌}
use mathlib.Core.List.{List, ◌∷◌, ◌++◌}
use Prim.Native.Nat.{ℕ, suc, ◌+◌, ◌*◌}
use native.Mathlib.Omega.{arith}
use borrow.Rule.Slice.PartMut.{mid_len}
use lib.ListN.{length, drop, length-append, length-drop}
use lib.Seq.{length-take-le}
use Rattle.rules.specs.Columns.{entries_of}
use Rattle.values.proofs.Parts.{put_top, bits}
use Rattle.values.proofs.write_top.Goals as goal

pub returns : goal.returns
unfolding entries_of
returns c =
    let v = c.args.v in
    let b = c.bit_length-b.result in
    let d = c.args.out.now in
    let w = c.write_number.new.out in
    let s : List ℕ = w ++ drop (b + 1) d in
    let size : length d ≡ suc (2 * b) = omega (arith, c.requires.0, c.bit_length-b.ensures) in
    let front = length-take-le (b + 1) d (omega arith) in
    let whole : length s ≡ length d = omega (arith, length-append w (drop (b + 1) d), length-drop (b + 1) d, c.write_number.auto.out) in
    rw (← c.bit_length-b.ensures)
    (put_top c.args.n v b d w c.write_bits.new.out c.bit_length-b.ensures size
    (c.write_number.ensures ∙ ap (λ (k : ℕ). v ∷ bits v k) (omega arith))
    (c.write_bits.ensures ∙ ap₂ bits c.saturating_sub.ensures (mid_len (b + 1) (length s) s (omega arith) ∙ omega arith)))
