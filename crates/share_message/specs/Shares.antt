-- A share message of either kind, by the number of elements of a share instead of the sheet: rules' definitions are these at
-- shareSize (proofs/Shares). And what stands before the elements of a share or round message.
-- Assumes nothing.
use Rattle.std.specs.Prelude.{Bool, cond, not, ◌&&◌, List, [], ◌∷◌, ◌++◌, ℕ, ◌+◌, ◌*◌, eqb, length, drop}
use Rattle.words.specs.Bytes.{bytes_of}
use Rattle.rules.specs.Settings.{document01}
use Rattle.rules.specs.Columns.{check}
use Rattle.rules.specs.Seeds.{seed_size, seed_length, seed_elements}
use Rattle.rules.specs.Messages.{kind_in, id_in, server_in, elements_in, brings_seed}

-- rules' kindSound, of a message with a seed and of one with elements
unfoldable pub seed_sound : ℕ → List ℕ → Bool
seed_sound own m = eqb (length m) seed_length && not (eqb own 0)

unfoldable pub long_sound : ℕ → List ℕ → Bool
long_sound size m = eqb (length m) (6 + 4 * size) && eqb (kind_in m) 33

unfoldable pub kind_sound_at : ℕ → ℕ → List ℕ → Bool
kind_sound_at size own m = cond (brings_seed m) (seed_sound own m) (long_sound size m)

-- how many bytes a share whose kind is sound has behind its header
abbrev pub rest_size : ℕ → List ℕ → ℕ
rest_size size m = cond (brings_seed m) seed_size (4 * size)

-- rules' headerFault
unfoldable pub header_fault_at : ℕ → ℕ → List ℕ → ℕ
header_fault_at size own m = check (kind_sound_at size own m && eqb (server_in m) own) 7

-- rules' shareIn
unfoldable pub share_at : ℕ → List ℕ → List ℕ
share_at size m = cond (brings_seed m) (seed_elements document01 (drop 6 m) (id_in m) size) (elements_in document01 m)

-- the element bytes or the seed of a share whose header is sound; none of another
unfoldable pub share_part : ℕ → ℕ → List ℕ → List ℕ
share_part size own m = cond (eqb (header_fault_at size own m) 0) (drop 6 m) []

-- kind byte, id, server
unfoldable pub header_bytes : ℕ → ℕ → ℕ → List ℕ
header_bytes kind id server = kind ∷ bytes_of 4 id ++ (server ∷ [])
