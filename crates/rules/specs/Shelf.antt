-- "Shares on the shelf": messages stored by place, and brought back. First what is stored and the refusals, then what is
-- promised; proofs/Storage proves it. Assumes nothing.
use Rattle.std.specs.Prelude.{◌≡◌, ◌&&◌, List, [], ◌++◌, ℕ, zero, suc, ◌+◌, ◌*◌, ◌<◌, leb, eqb, length, get_or}
use Rattle.algebra.specs.Lists.{tabulate}
use Rattle.records.specs.Outcome.{or_else}
use Rattle.rules.specs.Settings.{Setting}
use Rattle.rules.specs.Columns.{within, check}

-- byte j of each of r messages of w bytes, which stand in `run` one after another
abbrev pub bytes_at : ℕ → ℕ → List ℕ → ℕ → List ℕ
bytes_at r w run j = tabulate (λ i. get_or run (w * i + j) 0) r

-- the first of each, then the second of each, and so on: the first n
unfoldable pub first_bytes : ℕ → ℕ → List ℕ → ℕ → List ℕ
first_bytes r w run zero = []
first_bytes r w run (suc n) = first_bytes r w run n ++ bytes_at r w run n

-- "Take R messages, 1 to 64, of W bytes each, 1 to 4,096. Store the first byte of each, then the second of each, and so on."
unfoldable pub shelved : ℕ → ℕ → List ℕ → List ℕ
shelved r w run = first_bytes r w run w

-- "The inverse brings every message back": w runs of r bytes are stored, and message i is byte i of each
abbrev pub unshelved : ℕ → ℕ → List ℕ → List ℕ
unshelved r w shelf = shelved w r shelf

-- "W bytes each, 1 to 4,096": the bytes of 1,024 elements
abbrev pub most_bytes : Setting → ℕ
most_bytes σ = 1024 * σ.width

-- "An R or W out of range is refused 2, a run that is not R × W bytes is refused 19, and then a short buffer 14."
-- The run has `bytes` bytes.
unfoldable pub shelf_refusal : Setting → ℕ → ℕ → ℕ → ℕ → ℕ
shelf_refusal σ r w bytes room =
    or_else (check (within 1 64 r && within 1 (most_bytes σ) w) 2)
    (or_else (check (eqb bytes (r * w)) 19) (check (leb (r * w) room) 14))

-- ---- what is promised, of any bytes and for any R and W
-- "The inverse brings every message back, for each R and W. It works on all such runs, whether or not they are sound
-- shares."
abbrev pub BroughtBack : Type 0
BroughtBack = (r w : ℕ) (run : List ℕ) → length run ≡ r * w → unshelved r w (shelved r w run) ≡ run

-- and the other way: every run of R × W bytes stores what it brings back
abbrev pub StoredAgain : Type 0
StoredAgain = (r w : ℕ) (shelf : List ℕ) → length shelf ≡ r * w → shelved r w (unshelved r w shelf) ≡ shelf

-- byte j of message i is byte i of the j-th run of r bytes, and R × W bytes are stored
abbrev pub PlaceOf : Type 0
PlaceOf = (r w : ℕ) (run : List ℕ) (i j : ℕ) → i < r → j < w → get_or (shelved r w run) (r * j + i) 0 ≡ get_or run (w * i + j) 0

abbrev pub LengthKept : Type 0
LengthKept = (r w : ℕ) (run : List ℕ) → (length (shelved r w run) ≡ r * w) × (length (unshelved r w run) ≡ r * w)
