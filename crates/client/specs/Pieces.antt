-- The pieces of a return, by the number of elements of a share instead of the sheet; rules' definitions are these at
-- shareSize (proofs/Refusals, proofs/Messages). And what the functions that write them ask for.
-- Assumes nothing.
use Rattle.std.specs.Prelude.{◌≡◌, ◌&&◌, List, [], ◌++◌, ℕ, zero, suc, ◌+◌, ◌-◌, ◌*◌, ◌≤◌, ◌<◌, eqb, length, get_or}
use Rattle.algebra.specs.Lists.{tabulate}
use Rattle.algebra.specs.Ops.{minus}
use Rattle.words.specs.Bytes.{part, elements_of, all_below}
use Rattle.field.specs.Residues.{prime, residues, Elements}
use Rattle.rules.specs.Columns.{check, columns_of}
use Rattle.rules.specs.Judging.{share_size}
use Rattle.rules.specs.Making.{values_fault}
use Rattle.columns.specs.declared.Counts.{Counts}
use Rattle.steps.specs.Words.{sum_of}
use Rattle.share_message.specs.Shares.{header_bytes}
use Rattle.whole.specs.Pieces.{Counted}

-- rules' randomFault
unfoldable pub random_fault_at : ℕ → ℕ → List ℕ → ℕ
random_fault_at servers size random =
    check (eqb (length random) (4 * ((servers - 1) * size + 4)) && all_below prime (elements_of 4 random)) 6

-- S is within its limits, and so is the number of elements
pub record Few (servers size : ℕ) : Type 0 where
  pub some : 2 ≤ servers
  pub few : servers ≤ 8
  pub small : size ≤ 774

-- ---- the shares of the servers
-- the random elements are u_0, v_0, a, b and the shares of the other servers, `size` elements each
pub record Random (random : List ℕ) (others size : ℕ) : Type 0 where
  pub few : others ≤ 7
  pub small : size ≤ 774
  pub long : length random ≡ 4 * (others * size + 4)
  pub elements : Elements (elements_of 4 random)

-- element e of server 0's share: the whole x less what the other servers hold
unfoldable pub rest_of : List ℕ → ℕ → ℕ → ℕ → ℕ → ℕ
rest_of random others size e x = minus residues x (sum_of random (4 * size) (16 + 4 * e) others)

-- server 0's share of the whole w
unfoldable pub first_share : List ℕ → ℕ → List ℕ → List ℕ
first_share random others w = tabulate (λ e. rest_of random others (length w) e (get_or w e 0)) (length w)

-- the bytes of a message
abbrev pub message_bytes : ℕ → ℕ
message_bytes size = 6 + 4 * size

-- the message of server j + 1, whose share is the part of the random bytes behind those of the servers before it
unfoldable pub other_message : List ℕ → ℕ → ℕ → ℕ → List ℕ
other_message random size id j = header_bytes 33 id (suc j) ++ part (16 + 4 * size * j) (4 * size) random

-- the messages of the first n other servers
unfoldable pub other_messages : List ℕ → ℕ → ℕ → ℕ → List ℕ
other_messages random size id zero = []
other_messages random size id (suc n) = other_messages random size id n ++ other_message random size id n

-- the share of server j + 1 lies within the random bytes, and its message within the buffer
pub record Other (random : List ℕ) (size j : ℕ) (out : List ℕ) : Type 0 where
  pub few : j < 7
  pub small : size ≤ 774
  pub within : 16 + 4 * size * j + 4 * size ≤ length random
  pub room : message_bytes size + message_bytes size * j + message_bytes size ≤ length out

-- ---- all that writing a return asks for
pub record Makeable (sheet : List ℕ) (counts : Counts) (servers : ℕ) (values random out : List ℕ) : Type 0 where
  pub counted : Counted sheet counts
  pub some : 2 ≤ servers
  pub legal : values_fault (columns_of sheet) values ≡ 0
  pub elements : Random random (servers - 1) (share_size (columns_of sheet))
  pub room : servers * message_bytes (share_size (columns_of sheet)) ≤ length out
