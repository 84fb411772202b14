-- An inner product with the powers of s as the folded tests. Assumes nothing.
use mathlib.Core.Path.{◌≡◌, ap, ap₂, ◌∙◌}
use mathlib.Core.List.{List}
use Prim.Native.Nat.{ℕ}
use native.Mathlib.Omega.{arith}
use lib.ListN.{length}
use Rattle.algebra.specs.Lists.{tabulate}
use Rattle.algebra.specs.Sums.{inner, power}
use Rattle.algebra.proofs.Sums.{sum_ext}
use Rattle.algebra.proofs.Tables.{get_d_tabulate}
use Rattle.field.specs.Residues.{residues}
use Rattle.rules.specs.Judging.{folded}
use Rattle.walk.specs.Walks.{members}

-- the powers of s
pub inner_folded : (ps ts us : List ℕ) (s : ℕ) → ps ≡ tabulate (power residues s) (length ps) → us ≡ ts → length ps ≡ length ts
    → inner residues (length ps) (members ps) (members us) ≡ folded residues ts s
unfolding folded
inner_folded ps ts us s e u q =
    ap (λ n. inner residues n (members ps) (members us)) q
    ∙ sum_ext residues (length ts) _ _
    (λ k l. ap₂ residues.◌⊗◌
    (ap (λ (l : List ℕ). members l k) e ∙ get_d_tabulate (power residues s) (length ps) k 0 (omega arith))
    (ap (λ (l : List ℕ). members l k) u))
