-- The prime of the pool, the operations modulo it, and lists of elements.
-- Assumes nothing.
use Rattle.std.specs.Prelude.{List, ℕ, ◌<◌}
use Rattle.algebra.specs.Ops.{Ops}
use Rattle.algebra.specs.Modulo.{modulo}
use Rattle.algebra.specs.Lists.{All}

abbrev pub prime : ℕ
prime = 2147483647

-- the power of two just above the prime; it leaves 1
abbrev pub top : ℕ
top = 2147483648

abbrev pub residues : Ops
residues = modulo prime

-- each member is an element: it is below the prime
abbrev pub Elements : List ℕ → Type 0
Elements = All (λ a. a < prime)
