-- The limits that a sheet sets, by what it comes to instead of its columns: rules' definitions are these (proofs/Sheets).
-- Assumes nothing.
use Rattle.std.specs.Prelude.{Bool, ◌&&◌, ℕ, ◌+◌, ltb}

-- the elements of a share, from the entries and the multiplications: rules' shareSize
abbrev pub size_of : ℕ → ℕ → ℕ
size_of entries gates = entries + (gates + gates) + 6

-- r above M and below p, s below p: rules' allowedPair
unfoldable pub pair_sound : ℕ → ℕ → ℕ → Bool
pair_sound gates r s = ltb gates r && (ltb r 2147483647 && ltb s 2147483647)
