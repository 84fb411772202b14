-- Operations on words of 32 bits: a sum that wraps, bits that differ, and a rotation to the left.
-- Assumes nothing.
use Rattle.std.specs.Prelude.{ℕ, ◌+◌, ◌-◌, ◌*◌, ◌/◌, ◌%◌, ◌^◌, bit_xor}

-- a + b, modulo 2 ^ 32
unfoldable pub plus : ℕ → ℕ → ℕ
plus a b = (a + b) % 2 ^ 32

-- the bits in which a and b differ
unfoldable pub xor : ℕ → ℕ → ℕ
xor a b = bit_xor a b

-- x rotated to the left by n: the n highest bits come in at the low end
unfoldable pub rotated : ℕ → ℕ → ℕ
rotated x n = x * 2 ^ n % 2 ^ 32 + x / 2 ^ (32 - n)
