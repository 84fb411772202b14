-- Bounds. A remainder is below the prime, so each value of a sum, a product or an inverse modulo the prime is an
-- element, and a table of such values is a list of elements. Assumes nothing.
use mathlib.Core.List.{List, [], ◌∷◌, ◌++◌}
use Prim.Native.Nat.{ℕ, zero, suc, ◌+◌, ◌-◌, ◌*◌, ◌%◌, ◌≤◌, ◌<◌}
use native.Mathlib.Nat.{mod-lt, mul-le-mul}
use native.Mathlib.Omega.{arith}
use lib.Dec.{lit<}
use lib.ListN.{get_or}
use Rattle.algebra.specs.Sums.{sum, product}
use Rattle.algebra.specs.Modulo.{inverse_from}
use Rattle.algebra.specs.Lists.{all[], all∷, tabulate}
use Rattle.field.specs.Residues.{prime, residues, Elements}

-- a product of two elements
pub product_elements : (a b : ℕ) → a < prime → b < prime → a * b ≤ (prime - 1) * (prime - 1)
product_elements a b h k = mul-le-mul {n₁ = a} {m₁ = b} {n₂ = prime - 1} {m₂ = prime - 1} (omega arith) (omega arith)

remainder : (n : ℕ) → n % prime < prime
remainder n = mod-lt n (lit< tt)

pub sum_below : (m : ℕ) (g : ℕ → ℕ) → sum residues m g < prime
unfolding sum
sum_below zero g = lit< tt
sum_below (suc m) g = remainder (sum residues m g + g m)

pub product_below : (m : ℕ) (g : ℕ → ℕ) → product residues m g < prime
unfolding product
product_below zero g = lit< tt
product_below (suc m) g = remainder (product residues m g * g m)

pub inverse_below : (a : ℕ) → residues.inv a < prime
inverse_below a = remainder (inverse_from prime a a)

-- a list of elements, and one more
snoc : (s : List ℕ) (a : ℕ) → Elements s → a < prime → Elements (s ++ (a ∷ []))
snoc [] a all[] h = all∷ h all[]
snoc (b ∷ s) a (all∷ k r) h = all∷ k (snoc s a r h)

pub tabulate_below : (f : ℕ → ℕ) (n : ℕ) → ((i : ℕ) → f i < prime) → Elements (tabulate f n)
unfolding tabulate
tabulate_below f zero h = all[]
tabulate_below f (suc n) h = snoc (tabulate f n) (f n) (tabulate_below f n h) (h n)

-- a member of a list of elements, and 0 past its end
pub member_below : (s : List ℕ) (i : ℕ) → Elements s → get_or s i 0 < prime
member_below [] i e = lit< tt
member_below (a ∷ s) zero (all∷ h e) = h
member_below (a ∷ s) (suc i) (all∷ h e) = member_below s i e

-- a product of two members
pub product_members : (s t : List ℕ) (i : ℕ) → Elements s → Elements t
    → get_or s i 0 * get_or t i 0 ≤ (prime - 1) * (prime - 1)
product_members s t i e h = product_elements (get_or s i 0) (get_or t i 0) (member_below s i e) (member_below t i h)
