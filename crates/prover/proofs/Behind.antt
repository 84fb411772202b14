-- A buffer whose first member is stored, and whose rest is lent to be filled. Assumes nothing.
use mathlib.Core.Path.{◌≡◌, ap, ap₂, ◌∙◌}
use mathlib.Core.List.{List, ◌∷◌, ◌++◌, append-nil}
use Prim.Native.Nat.{ℕ, suc, ◌-◌, ◌≤◌}
use native.Mathlib.Omega.{arith}
use borrow.Rule.Slice.PartMut.{mid_of, put_mid, Post-is}
use lib.ListN.{length, length-set, set}
use lib.Seq.{take-suc-set, drop-length}

module _ (d : List ℕ) (v : ℕ) {m : ℕ} (long : length d ≡ suc m) where
  abbrev stored : List ℕ
  stored = set d 0 v

  module _ (p : List ℕ) (kept : length p ≡ length (mid_of 1 (length stored - 1) stored)) where
    pub behind_first : {rest : List ℕ} → p ≡ rest → put_mid 1 (length stored - 1) stored p ≡ v ∷ rest
    behind_first {rest} q =
        let some : 1 ≤ length stored = let e : length stored ≡ length d = length-set d 0 v in omega arith in
        ap₂ (λ (a b : List ℕ). a ++ (p ++ b)) (take-suc-set d 0 v (omega arith))
        (Post-is 1 (length stored) stored some ∙ drop-length stored)
        ∙ ap (v ∷◌) (append-nil p ∙ q)
