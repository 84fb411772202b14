-- How long an inner product may be, so that its sums fit into 64 bits.
-- Assumes nothing.
use Rattle.std.specs.Prelude.{ℕ}

-- the most members that an inner product is taken of
abbrev pub longest : ℕ
longest = 65536
