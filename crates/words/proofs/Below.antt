-- What holds of each number of a list. `all_below p` is true exactly where each number is below p: by the list, as it is
-- defined. Assumes nothing.
use mathlib.Core.Path.{◌≡◌, refl}
use mathlib.Core.Bool.{true}
use mathlib.Core.List.{List, [], ◌∷◌}
use Prim.Native.Nat.{ℕ, zero, suc, ◌<◌}
use borrow.Author.Tests.{ltb-true, lt-ltb}
use lib.Dec.{ltb}
use lib.ListN.{take, drop}
use Rattle.algebra.specs.Lists.{All, all[], all∷, every}
use Rattle.algebra.proofs.Members.{and_left, and_right}
use Rattle.words.specs.Bytes.{all_below}

module _ {A : Type 0} (P : A → Type 0) where
  pub all_take : (n : ℕ) {s : List A} → All P s → All P (take n s)
  all_take zero a = all[]
  all_take (suc n) all[] = all[]
  all_take (suc n) (all∷ p a) = all∷ p (all_take n a)

  pub all_drop : (n : ℕ) {s : List A} → All P s → All P (drop n s)
  all_drop zero a = a
  all_drop (suc n) all[] = all[]
  all_drop (suc n) (all∷ p a) = all_drop n a

pub all_of_below : (p : ℕ) (xs : List ℕ) → all_below p xs ≡ true → All (λ x. x < p) xs
unfolding all_below every
all_of_below p [] h = all[]
all_of_below p (x ∷ xs) h =
    all∷ (ltb-true x p (and_left (ltb x p) (all_below p xs) h)) (all_of_below p xs (and_right (ltb x p) (all_below p xs) h))

pub below_of_all : (p : ℕ) (xs : List ℕ) → All (λ x. x < p) xs → all_below p xs ≡ true
unfolding all_below every
below_of_all p [] all[] = refl
below_of_all p (x ∷ xs) (all∷ h a) = rw (lt-ltb x p h) (below_of_all p xs a)
