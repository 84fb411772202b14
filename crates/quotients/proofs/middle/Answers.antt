-- `quotients::middle`: by the weight from factorials.
use Rattle.std.proofs.Common.{arith, ℕ, ◌≡◌, ◌-◌, ◌/◌, ◌<◌, sym, ap, ap₂, ◌∙◌}
use Rattle.std.proofs.Math.Dec.{lit<}
use Rattle.std.proofs.Math.Nat.{mod-lt}
use Rattle.algebra.specs.Interpolation.{weight, sign}
use Rattle.field.specs.Residues.{prime, residues}
use Rattle.quotients.specs.Factorials.{inverse_factorial}
use Rattle.quotients.proofs.Numbers.{weight_is}
use Rattle.quotients.proofs.Products.{times, over_low}
use Rattle.quotients.proofs.middle.Goals as goal

middle_is : (n : ℕ) → n < prime
    → times (inverse_factorial (n - n / 2)) (times (sign residues (n / 2)) (inverse_factorial (n / 2)))
    ≡ weight residues n (n - n / 2)
middle_is n h =
    let e : n / 2 ≡ n - (n - n / 2) = omega arith in
    ap (λ (k : ℕ). times (inverse_factorial (n - n / 2)) (times (sign residues k) (inverse_factorial k))) e
    ∙ sym (weight_is n (n - n / 2) (omega arith) h)

pub signed-requires : goal.signed-requires
signed-requires c = over_low _ c.inverse_factorial-half.ensures

pub mul-requires : goal.mul-requires
mul-requires c = (over_low _ c.other_half.ensures, rw c.signed.ensures (mod-lt _ (lit< tt)))

pub returns : goal.returns
returns c =
    let n = c.args.n in
    c.mul.ensures
    ∙ ap₂ times c.other_half.ensures
    (c.signed.ensures ∙ ap (times (sign residues (n / 2))) c.inverse_factorial-half.ensures)
    ∙ middle_is n (omega arith)
