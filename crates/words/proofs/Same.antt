-- `same_bytes` is true exactly where two lists are equal, and is what a comparison place by place says. Both go by the lists, as it
-- is defined. Assumes nothing.
use mathlib.Core.Path.{◌≡◌, refl, ap, ap₂}
use mathlib.Core.Bool.{Bool, true, ◌&&◌}
use mathlib.Core.List.{List, [], ◌∷◌}
use Prim.Native.Nat.{ℕ}
use native.Mathlib.Omega.{arith}
use borrow.Author.Tests.{eqb-true, eq-eqb}
use lib.Dec.{eqb}
use Rattle.std.specs.Prelude.{nat_eq}
use Rattle.std.specs.Cmp.Lexicographic.{pointwise}
use Rattle.words.specs.Bytes.{same_bytes}
use Rattle.algebra.proofs.Members.{and_left, and_right}

pub same_equal : (s t : List ℕ) → same_bytes s t ≡ true → s ≡ t
unfolding same_bytes
same_equal [] [] h = refl
same_equal [] (b ∷ t) h = absurd (let z : ◌≡◌ {A = ℕ} 0 1 = cc in omega arith)
same_equal (a ∷ s) [] h = absurd (let z : ◌≡◌ {A = ℕ} 0 1 = cc in omega arith)
same_equal (a ∷ s) (b ∷ t) h =
    ap₂ ◌∷◌ (eqb-true a b (and_left (eqb a b) (same_bytes s t) h)) (same_equal s t (and_right (eqb a b) (same_bytes s t) h))

pub equal_same : (s t : List ℕ) → s ≡ t → same_bytes s t ≡ true
unfolding same_bytes
equal_same s t e = rw (← e) (self s) where
  self : (s : List ℕ) → same_bytes s s ≡ true
  self [] = refl
  self (a ∷ s) = rw (eq-eqb a a refl) (self s)

-- two lists compared place by place
pub same_pointwise : (s t : List ℕ) → pointwise nat_eq s t ≡ same_bytes s t
unfolding same_bytes
same_pointwise [] [] = refl
same_pointwise [] (b ∷ t) = refl
same_pointwise (a ∷ s) [] = refl
same_pointwise (a ∷ s) (b ∷ t) = ap (λ (r : Bool). eqb a b && r) (same_pointwise s t)
