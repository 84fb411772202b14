-- A return that is decided: what code writes is rules' decidedTable, by what the table says. It takes a record that is not free,
-- which leaves room for one return more that is decided. Assumes nothing.
use mathlib.Core.Path.{◌≡◌, refl}
use mathlib.Core.Bool.{false}
use mathlib.Core.List.{List}
use Prim.Native.Nat.{ℕ, ◌≤◌, ◌<◌}
use lib.ListN.{length, get_or}
use Rattle.std.specs.Prelude.{Some}
use Rattle.slots.specs.declared.Change.{Change}
use Rattle.slots.specs.Slots.{free_slot, applied}
use Rattle.rules.specs.Settings.{document01}
use Rattle.rules.specs.Judging.{share_size}
use Rattle.rules.specs.WaitingList.{is_free, place_of}
use Rattle.rules.specs.Table.{Lent, ids_place, decided_bytes, decided_table}
use Rattle.layout.specs.Numbers.{table_of}
use Rattle.layout.specs.Writing.{noted}
use Rattle.layout.specs.declared.Table.{Table}
use Rattle.waiting.specs.Changes.{records_at, lent}
use Rattle.table.specs.Reading.{Sound}
use Rattle.table.specs.Deciding.{erased_at, Placed, Decided}
use Rattle.table.proofs.Waiting.{decidable}

-- ---- what deciding asks for
pub placed : (T : Lent) (k : Table) → Sound T k → (j : ℕ) → j < 8 → is_free (get_or T.slots j free_slot) ≡ false
    → (t : List ℕ) → length t ≡ length T.bytes → (entered : ℕ) → entered ≤ 1 → Placed t k T.elements j entered
placed T k s j h taken t l entered one =
    record {
      decidable = decidable T k s j h taken t l;
      run_long = s.run_long;
      one_of_eight = h;
      one_or_none = one;
    }

-- ---- what it leaves, from the bytes u
decided_at : (T : Lent) (entered id : ℕ) (u : List ℕ)
    → lent (noted (table_of T.bytes) entered id u) (applied T.slots (Some (records_at (place_of id T.slots) free_slot)))
    (erased_at (table_of T.bytes) (place_of id T.slots) T.elements)
    ≡ decided_table document01 T id (decided_bytes document01 T entered id u)
unfolding noted decided_table decided_bytes table_of ids_place share_size
decided_at T entered id u = refl

pub decided_is : (T : Lent) (k : Table) → Sound T k → (entered id : ℕ) (u : List ℕ) (j : ℕ) → j ≡ place_of id T.slots
    → (c : Change) (t es : List ℕ) → Decided k j entered id u T.elements c t es
    → lent t (applied T.slots (Some c)) es ≡ decided_table document01 T id (decided_bytes document01 T entered id u)
decided_is T k s entered id u j e c t es d =
    rw (d.frees, d.bytes_are, d.numbers_are, s.says, e) (decided_at T entered id u)
