-- A return that is decided, in the numbers of code: rules' decidedTable, whose bytes are decidedBytes (proofs/Decided).
-- Assumes nothing.
use Rattle.std.specs.Prelude.{◌≡◌, List, ℕ, ◌*◌, ◌≤◌, ◌<◌, length, replicate}
use Rattle.words.specs.Bytes.{splice}
use Rattle.slots.specs.declared.Change.{Change}
use Rattle.slots.specs.Slots.{free_slot}
use Rattle.layout.specs.Places.{place_size_of}
use Rattle.layout.specs.Writing.{noted, Decidable}
use Rattle.layout.specs.declared.Table.{Table}
use Rattle.waiting.specs.Changes.{records_at}

-- the numbers es with those of a place erased: rules' clearedNumbers
abbrev pub erased_at : Table → ℕ → List ℕ → List ℕ
erased_at k at es =
    splice es (place_size_of k.entries k.gates * at) (replicate (place_size_of k.entries k.gates) 0)

-- the return at a place can be decided: there is room for its id, and the run of numbers has its place
pub record Placed (t : List ℕ) (k : Table) (es : List ℕ) (at entered : ℕ) : Type 0 where
  pub decidable : Decidable t k
  pub run_long : place_size_of k.entries k.gates * 8 ≤ length es
  pub one_of_eight : at < 8
  pub one_or_none : entered ≤ 1

-- what deciding it does: c to the list, from the bytes t and the numbers es to t' and es'
pub record Decided (k : Table) (at entered id : ℕ) (t es : List ℕ) (c : Change) (t' es' : List ℕ) : Type 0 where
  pub frees : c ≡ records_at at free_slot
  pub bytes_are : t' ≡ noted k entered id t
  pub numbers_are : es' ≡ erased_at k at es
