-- Joined totals messages, by the number of published entries instead of the sheet; rules' definitions are these at
-- publishedIn (proofs/Totals).
-- Assumes nothing.
use Rattle.std.specs.Prelude.{◌≡◌, Bool, ◌&&◌, List, ◌∷◌, ℕ, ◌+◌, ◌*◌, ◌≤◌, ◌<◌, eqb, leb, length, get_or}
use Rattle.algebra.specs.Lists.{every, count_from}
use Rattle.algebra.specs.Sums.{sum}
use Rattle.words.specs.Bytes.{bytes_of, part}
use Rattle.rules.specs.Settings.{document01}
use Rattle.rules.specs.Columns.{check}
use Rattle.rules.specs.Joining.{accepted_count, sums_in, totals_sound}
use Rattle.field.specs.Residues.{residues}

-- the bytes of a message, and each server's message
abbrev pub totals_bytes : ℕ → ℕ
totals_bytes published = 6 + 4 * published

abbrev pub totals_part : ℕ → List ℕ → ℕ → List ℕ
totals_part published joined i = part (totals_bytes published * i) (totals_bytes published) joined

-- the message of server i is sound, from its own place, and holds this count
abbrev pub totals_sound_at : ℕ → ℕ → List ℕ → ℕ → Bool
totals_sound_at published count joined i = totals_sound document01 count i (totals_part published joined i)

-- and so is each
unfoldable pub all_totals_sound : ℕ → ℕ → ℕ → List ℕ → Bool
all_totals_sound servers published count joined = every (totals_sound_at published count joined) (count_from 0 servers)

-- rules' joinedFault
unfoldable pub joined_fault_at : ℕ → ℕ → ℕ → List ℕ → ℕ
joined_fault_at servers published returns joined =
    check
    (eqb (length joined) (totals_bytes published * servers)
    && (all_totals_sound servers published (accepted_count joined) joined && leb (accepted_count joined) returns)) 12

-- element k of rules' joinTotals
unfoldable pub total_at : ℕ → ℕ → List ℕ → ℕ → ℕ
total_at servers published joined k = sum residues servers (λ i. get_or (sums_in document01 (totals_part published joined i)) k 0)

-- what stands before the totals
unfoldable pub totals_header : ℕ → ℕ → List ℕ
totals_header own count = 36 ∷ own ∷ bytes_of 4 count

-- the limits on S and on the published entries
pub record Limited (servers published : ℕ) : Type 0 where
  pub some : 2 ≤ servers
  pub few : servers ≤ 8
  pub small : published ≤ 256

-- messages of the right length
pub record WholeTotals (servers published : ℕ) (joined : List ℕ) : Type 0 where
  pub few : servers ≤ 8
  pub small : published ≤ 256
  pub long : length joined ≡ totals_bytes published * servers

-- messages whose elements k can be summed: they are below p
pub record SummableTotals (servers published k : ℕ) (joined : List ℕ) : Type 0 where
  pub small : published ≤ 256
  pub long : length joined ≡ totals_bytes published * servers
  pub one : k < published
  pub below : (i : ℕ) → i < servers → get_or (sums_in document01 (totals_part published joined i)) k 0 < document01.modulus
