-- A list of inverses modulo the prime, and what weights are made of: products of inverses.
-- Assumes nothing.
use Rattle.std.specs.Prelude.{◌≡◌, List, ℕ, suc, ◌-◌, length}
use Rattle.algebra.specs.Lists.{tabulate}
use Rattle.algebra.specs.Sums.{product}
use Rattle.field.specs.Residues.{residues}

-- the members are 1 over 1, 1 over 2, ..
abbrev pub Inverses : List ℕ → Type 0
Inverses s = s ≡ tabulate (λ i. residues.inv (suc i)) (length s)

-- 1 over j factorial: the product of the inverses of 1, .., j
abbrev pub inverse_factorial : ℕ → ℕ
inverse_factorial j = product residues j (λ i. residues.inv (suc i))

-- the weight of point j + 1 among 0, .., n over that of point j: (j - n) / (j + 1)
abbrev pub next_over : ℕ → ℕ → ℕ
next_over n j = residues.◌⊗◌ (residues.neg (n - j)) (residues.inv (suc j))
