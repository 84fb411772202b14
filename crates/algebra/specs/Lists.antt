-- Lists: what holds of each member, members that all differ, rearrangement, a list given by a rule, sums over a list.
-- Assumes nothing.
use Rattle.std.specs.Prelude.{◌≡◌, ◌⊎◌, ◌≢◌, Bool, true, false, ◌&&◌, List, [], ◌∷◌, ◌++◌, ℕ, zero, suc, ◌+◌}

-- P holds of each member
pub data All {A : Type 0} (P : A → Type 0) : List A → Type 0 where
  all[] : All P []
  all∷ : {a : A} {s : List A} → P a → All P s → All P (a ∷ s)

-- x is a member
abbrev pub In : {A : Type 0} → A → List A → Type 0
In x [] = ⊥
In x (y ∷ s) = (y ≡ x) ⊎ In x s

-- no two members are equal
pub data Distinct {A : Type 0} : List A → Type 0 where
  distinct[] : Distinct []
  distinct∷ : {a : A} {s : List A} → All (λ b. b ≢ a) s → Distinct s → Distinct (a ∷ s)

-- the same members, each as often, in another order
pub data Rearranged {A : Type 0} : List A → List A → Type 0 where
  none : Rearranged [] []
  keep : (x : A) {s t : List A} → Rearranged s t → Rearranged (x ∷ s) (x ∷ t)
  swap : (x y : A) (s : List A) → Rearranged (x ∷ y ∷ s) (y ∷ x ∷ s)
  chain : {s t u : List A} → Rearranged s t → Rearranged t u → Rearranged s u

-- f 0, f 1, .., f (n - 1)
unfoldable pub tabulate : {A : Type 0} → (ℕ → A) → ℕ → List A
tabulate f zero = []
tabulate f (suc n) = tabulate f n ++ (f n ∷ [])

-- whether t holds of each member
unfoldable pub every : {A : Type 0} → (A → Bool) → List A → Bool
every t [] = true
every t (x ∷ s) = t x && every t s

-- the sum of f over the members
unfoldable pub sum_over : {A : Type 0} → (A → ℕ) → List A → ℕ
sum_over f [] = 0
sum_over f (x ∷ s) = f x + sum_over f s

-- a, a + 1, .., n numbers
unfoldable pub count_from : ℕ → ℕ → List ℕ
count_from a zero = []
count_from a (suc n) = a ∷ count_from (suc a) n
