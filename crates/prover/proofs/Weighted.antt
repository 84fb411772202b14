-- The members of a table of the weights of the points 0, .., n. Assumes nothing.
use mathlib.Core.Path.{◌≡◌, ap, subst, sym, ◌∙◌}
use mathlib.Core.List.{List}
use Prim.Native.Nat.{ℕ, suc, ◌-◌, ◌<◌, ◌≤◌}
use native.Mathlib.Omega.{arith}
use lib.ListN.{length}
use Rattle.algebra.specs.Interpolation.{weight}
use Rattle.algebra.proofs.Tables.{length_tabulate, get_d_tabulate}
use Rattle.field.specs.Residues.{prime, residues, Elements}
use Rattle.quotients.proofs.Numbers.{weight_below}
use Rattle.field.proofs.Below.{tabulate_below, member_below}
use Rattle.walk.specs.Walks.{members}
use Rattle.prover.specs.Curves.{Weights}

module _ {n : ℕ} {ws : List ℕ} (w : Weights n ws) where
  pub weights_long : length ws ≡ suc n
  weights_long = ap length w.are ∙ length_tabulate _ (suc n)

  pub weight_at : (j : ℕ) → j ≤ n → members ws j ≡ weight residues n j
  weight_at j h = ap (λ (l : List ℕ). members l j) w.are ∙ get_d_tabulate (weight residues n) (suc n) j 0 (omega arith)

  pub weight_low : (j : ℕ) → members ws j < prime
  weight_low j =
      member_below ws j (subst Elements (sym w.are) (tabulate_below (weight residues n) (suc n) (weight_below n)))

-- the last of a points, which are 0, .., n
pub last_point : {a n : ℕ} → a ≡ suc n → n ≡ a - 1
last_point e = omega arith
