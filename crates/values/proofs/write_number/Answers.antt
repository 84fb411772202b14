-- `values::write_number`: behind the number stand its bits. Assumes nothing.
use mathlib.Core.Path.{◌≡◌, ap, ◌∙◌}
use mathlib.Core.List.{List, [], ◌∷◌}
use Prim.Native.Nat.{ℕ}
use native.Mathlib.Omega.{arith}
use borrow.Rule.Slice.PartMut.{mid_len}
use lib.ListN.{length, set, length-set}
use lib.Seq.{take-suc-set}
use Rattle.values.proofs.Parts.{put_last, bits}
use Rattle.values.proofs.write_number.Goals as goal

pub returns : goal.returns
returns c =
    let v = c.args.v in
    let s : List ℕ = set c.args.out.now 0 v in
    let same : length s ≡ length c.args.out.now = length-set c.args.out.now 0 v in
    put_last (v ∷ []) s 1 (omega arith) (take-suc-set c.args.out.now 0 v (omega arith)) c.write_bits.new.out
    ∙ ap (λ (l : List ℕ). v ∷ l)
    (c.write_bits.ensures ∙ ap (bits v) (mid_len 1 (length s) s (omega arith) ∙ omega arith))
