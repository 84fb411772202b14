-- Fractions modulo the prime, and the sum of values times weights over r - j.
-- Assumes nothing.
use Rattle.std.specs.Prelude.{List, ℕ, ◌<◌, get_or}
use Rattle.algebra.specs.Interpolation.{ascending, numerator}
use Rattle.field.specs.Residues.{prime, residues}
use Rattle.interpolation.specs.declared.Fraction.{Fraction}

-- both parts are elements
pub record Element (a : Fraction) : Type 0 where
  pub over_below : a.over < prime
  pub under_below : a.under < prime

-- a + b
abbrev pub plus_of : Fraction → Fraction → Fraction
plus_of a b = record {
  over = residues.◌⊕◌ (residues.◌⊗◌ a.over b.under) (residues.◌⊗◌ b.over a.under);
  under = residues.◌⊗◌ a.under b.under;
}

-- a value times its weight
abbrev pub term_at : List ℕ → List ℕ → ℕ → ℕ
term_at y weights i = residues.◌⊗◌ (get_or y i 0) (get_or weights i 0)

-- the sum of the first n of these over r - (s + i)
abbrev pub sum_of : List ℕ → List ℕ → ℕ → ℕ → ℕ → Fraction
sum_of y weights s r n = record {
  over = numerator residues s r n (term_at y weights);
  under = ascending residues s n r;
}
