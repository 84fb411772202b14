-- `layout::writing::clear` meets its contract: the part that was lent is put back as zeros (`part_put`). Assumes nothing.
use mathlib.Core.Path.{◌≡◌, ap, ◌∙◌}
use Prim.Native.Nat.{ℕ, ◌+◌, ◌-◌}
use native.Mathlib.Omega.{arith}
use lib.ListN.{length, take, drop, replicate, length-take, length-drop, length-replicate}
use Rattle.words.proofs.Loops.{part_put}
use Rattle.layout.proofs.writing.clear.Goals as goal

pub returns : goal.returns
returns c =
    let g = c.args in
    let lent : length (take (g.at + g.n - g.at) (drop g.at g.t.now)) ≡ g.n = simp (length-take, length-drop) (omega arith) in
    let zeros : c.fill.new.self ≡ replicate g.n 0 = c.fill.ensures.after (λ y h. h) ∙ ap (λ (k : ℕ). replicate k 0) lent in
    rw zeros
    (part_put g.at (g.at + g.n) g.t.now (replicate g.n 0) (omega arith) c.requires (omega (arith, length-replicate {A = ℕ} g.n 0)))
