-- What a share has to be to be taken, in the numbers of code, and what taking it writes.
-- Assumes nothing.
use Rattle.std.specs.Prelude.{◌≡◌, true, List, ℕ, ◌+◌, ◌≤◌, ◌<◌, length, drop}
use Rattle.words.specs.Bytes.{splice, all_below}
use Rattle.slots.specs.declared.Change.{Change}
use Rattle.rules.specs.Settings.{document01}
use Rattle.rules.specs.WaitingList.{stage_one, free_place, slot_of, numbers_of, put_numbers}
use Rattle.rules.specs.Table.{Lent, columns_at, share_taken, share_bytes}
use Rattle.share_message.specs.Shares.{rest_size, share_at}
use Rattle.limits.specs.Sheets.{size_of}
use Rattle.layout.specs.declared.Table.{Table}
use Rattle.waiting.specs.Changes.{records_at}
use Rattle.table.specs.Reading.{Headed, Sound}

-- the elements xs of a share, and a pair, that judging can take
pub record Judgeable (t : List ℕ) (k : Table) (xs : List ℕ) (r s : ℕ) : Type 0 where
  pub table : Headed t k
  pub size : length xs ≡ size_of k.entries k.gates
  pub elements : all_below 2147483647 xs ≡ true
  pub r_below : r < 2147483647
  pub s_below : s < 2147483647

-- a share m of `size` elements, whose header is sound: x is what stands behind it
pub record Brought (size : ℕ) (m x : List ℕ) : Type 0 where
  pub size_most : size ≤ 774
  pub long : length m ≡ 6 + rest_size size m
  pub part : x ≡ drop 6 m

-- a share m that is not refused
pub record Takable (T : Lent) (k : Table) (m x : List ℕ) (r s : ℕ) : Type 0 where
  pub table : Sound T k
  pub free : free_place T.slots < 8
  pub brought : Brought (size_of k.entries k.gates) m x
  pub elements : all_below 2147483647 (share_at (size_of k.entries k.gates) m) ≡ true
  pub r_below : r < 2147483647
  pub s_below : s < 2147483647

-- a share that is taken: the record c, the numbers es' and the buffer out'
pub record Takes (T : Lent) (m : List ℕ) (r s : ℕ) (out : List ℕ) (c : Change) (es' out' : List ℕ) : Type 0 where
  pub record_is : c ≡ records_at (free_place T.slots) (slot_of stage_one (share_taken document01 T m r s))
  pub numbers_is : es' ≡ put_numbers (columns_at document01 T) T.elements (free_place T.slots)
      (numbers_of (share_taken document01 T m r s))
  pub out_is : out' ≡ splice out 0 (share_bytes document01 T m r s)
