-- What a sound table says to a call: the returns that wait while it is open, and the one that waits under an id, which is that
-- of the id's record (`find_place`). Assumes nothing.
use mathlib.Core.Path.{◌≡◌, refl, sym, ◌∙◌}
use mathlib.Core.Bool.{Bool, true, false, not}
use mathlib.Core.List.{List}
use mathlib.Core.Option.{some, none}
use Prim.Native.Nat.{ℕ, ◌≤◌, ◌<◌}
use native.Mathlib.Omega.{arith}
use borrow.Author.Tests.{lt-ltb, le-ltb}
use lib.ListN.{length, get_or}
use Rattle.algebra.proofs.Members.{and_left}
use Rattle.slots.specs.Slots.{free_slot}
use Rattle.rules.specs.Settings.{document01}
use Rattle.rules.specs.Keyed.{find}
use Rattle.rules.specs.Server.{Wait, held_id, while_open}
use Rattle.rules.specs.WaitingList.{is_free, place_of, waits_under, waiting_count, waits_in, wait_as, wait_at}
use Rattle.rules.specs.Table.{Lent, columns_at, stage_in, waiting_under}
use Rattle.rules.proofs.Waiting.Records.{place_most, place_holds, count_waits, find_place}
use Rattle.layout.specs.Numbers.{table_of}
use Rattle.layout.specs.declared.Table.{Table}
use Rattle.table.specs.Reading.{Sound}

-- the returns that wait in a table
abbrev pub waits_of : Lent → List Wait
waits_of T = waits_in (columns_at document01 T) T.slots T.elements

not_of : (b : Bool) → not b ≡ true → b ≡ false
not_of true e = sym e
not_of false e = refl

not_of_false : (b : Bool) → not b ≡ false → b ≡ true
not_of_false true e = refl
not_of_false false e = sym e

-- ---- open or closed
open_at : (T : Lent) (f : List Wait → ℕ) → (table_of T.bytes).closed ≡ false → while_open (stage_in document01 T) f ≡ f (waits_of T)
unfolding while_open stage_in table_of
open_at T f e = rw (not_of_false _ e)

closed_at : (T : Lent) (f : List Wait → ℕ) → (table_of T.bytes).closed ≡ true → while_open (stage_in document01 T) f ≡ 11
unfolding while_open stage_in table_of
closed_at T f e = rw (not_of _ e)

module _ (T : Lent) (k : Table) (s : Sound T k) where
  pub while_open_lem : (f : List Wait → ℕ) → k.closed ≡ false → while_open (stage_in document01 T) f ≡ f (waits_of T)
  while_open_lem f = rw s.says (open_at T f)

  pub once_closed : (f : List Wait → ℕ) → k.closed ≡ true → while_open (stage_in document01 T) f ≡ 11
  once_closed f = rw s.says (closed_at T f)

  pub waits_count : length (waits_of T) ≡ waiting_count T.slots
  waits_count = count_waits (columns_at document01 T) T.slots T.elements

  -- ---- the return that waits under an id
  module _ (id : ℕ) where
    abbrev place : ℕ
    place = place_of id T.slots

    pub place_few : place ≤ 8
    place_few = omega (arith, place_most (waits_under id) T.slots, s.eight)

    pub none_under : 8 ≤ place → find held_id id (waits_of T) ≡ none
    none_under h =
        find_place (columns_at document01 T) id T.slots T.elements
        ∙ rw (le-ltb place (length T.slots) (omega (arith, s.eight)))

    module _ (h : place < 8) where
      under : waits_under id (get_or T.slots place free_slot) ≡ true
      under = place_holds (waits_under id) T.slots (omega (arith, s.eight))

      pub not_free : is_free (get_or T.slots place free_slot) ≡ false
      not_free = not_of _ (and_left (not (is_free (get_or T.slots place free_slot))) _ under)

      pub found_under : find held_id id (waits_of T)
          ≡ some (wait_as (get_or T.slots place free_slot).stage (waiting_under document01 T id))
      unfolding wait_at
      found_under =
          find_place (columns_at document01 T) id T.slots T.elements
          ∙ rw (lt-ltb place (length T.slots) (omega (arith, s.eight)), not_free) refl
