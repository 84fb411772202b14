-- A share that is taken, round one, and an accepted verdict: the table after the call stands beside the ledger after it. The bytes stay; the records
-- and the numbers change as the returns that wait do. Assumes nothing.
use mathlib.Core.Path.{◌≡◌, sym, ap, ap₂, ◌∙◌, subst}
use mathlib.Core.Logic.{◌≢◌}
use mathlib.Core.List.{List, ◌∷◌, map}
use mathlib.Core.Option.{some}
use Prim.Native.Nat.{ℕ, ◌+◌, ◌<◌}
use native.Mathlib.Omega.{arith}
use lib.ListN.{length, get_or, set}
use Rattle.algebra.specs.Lists.{All}
use Rattle.slots.specs.Slots.{free_slot}
use Rattle.rules.specs.Settings.{Setting, Facts}
use Rattle.rules.specs.Messages.{id_in, share_in, element_sum, first_sum, second_sum}
use Rattle.rules.specs.Keyed.{find, changed}
use Rattle.rules.specs.Server.{Opened, Waiting, held, most_waiting, waiting_of, with_sums, summed, message_one, message_two}
use Rattle.rules.specs.WaitingList.{stage_one, stage_two, stage_entry, free_place, place_of, numbers_at, waiting_at, slot_of, numbers_of, put_numbers}
use Rattle.rules.specs.Table.{Lent, opened_in, waiting_under, share_table, share_bytes, one_table, one_bytes, accepted_table}
use Rattle.rules.specs.Ledger.{Note, Pending, waits_one, waitsTwo, pending_id, is_open, Decided, note_of, noted, ledger_wait}
use Rattle.rules.specs.Ledger.{sums_noted, accept_noted, second_answer}
use Rattle.rules.proofs.Histories.Moves.{at}
use Rattle.rules.proofs.Histories.OwnMessages.{sum_below}
use Rattle.rules.proofs.Histories.NotesGrow.{keeps_note, accept_keeps_note, as_many}
use Rattle.rules.proofs.Tables.Listed.{NoteFits, Listed, taken_listed, is_said}
use Rattle.rules.proofs.Tables.Changed.{summed_listed, accepted_listed}
use Rattle.rules.proofs.Tables.Invariant.{Beside, opened_same}

module _ (σ : Setting) (o : Opened) (T : Lent) (ws : List Pending) (ds : List Decided) (b : Beside σ o T (at (is_open ws) ds)) where
  opened : opened_in σ T.bytes ≡ o
  opened = opened_same σ o T (at (is_open ws) ds) b

  -- ---- a share
  pub share_writes : (m : List ℕ) (r s : ℕ) → share_bytes σ T m r s ≡ message_one σ o (noted σ o (note_of σ o m r s))
  unfolding share_bytes
  share_writes m r s = ap (λ (p : Opened). message_one σ p (waiting_of σ p (id_in m) (share_in σ p.columns m) r s)) opened

  pub share_taken_lem : Facts σ → (m : List ℕ) (r s : ℕ) → NoteFits σ o (note_of σ o m r s) → length ws < most_waiting
      → All (λ x. x ≢ id_in m) (map pending_id ws) → length ds + length ws < o.returns
      → Beside σ o (share_table σ T m r s) (at (is_open (waits_one (note_of σ o m r s) ∷ ws)) ds)
  unfolding share_table
  share_taken_lem facts m r s f few new room = record {
    parts = b.parts;
    is = b.is;
    sized = b.sized;
    opened_as_lem = b.opened_as_lem;
    tells = b.tells;
    staged = b.staged;
    listed = subst (λ (p : Opened).
        Listed σ o (waits_one (note_of σ o m r s) ∷ ws)
        (set T.slots (free_place T.slots) (slot_of stage_one (waiting_of σ p (id_in m) (share_in σ p.columns m) r s)))
        (put_numbers p.columns T.elements (free_place T.slots)
        (numbers_of (waiting_of σ p (id_in m) (share_in σ p.columns m) r s))))
        (sym opened)
        (taken_listed σ facts o ws T.slots T.elements b.listed (note_of σ o m r s) f few new);
    room = omega arith;
  }

  -- ---- the return of an id
  pub under_is : (id : ℕ) (v : Pending) → find pending_id id ws ≡ some v → waiting_under σ T id ≡ held (ledger_wait σ o v)
  under_is id v q =
      let j : ℕ = place_of id T.slots in
      ap (λ (p : Opened). waiting_at p.columns (get_or T.slots j free_slot) (numbers_at p.columns T.elements j)) opened
      ∙ (is_said σ o ws T.slots T.elements b.listed id v q).1

  -- ---- round one
  module _ (id : ℕ) (n : Note) (q : find pending_id id ws ≡ some (waits_one n)) (joined : List ℕ) where
    pub one_writes : one_bytes σ T id joined ≡ second_answer σ o n joined
    unfolding one_bytes summed ledger_wait
    one_writes = ap₂ (λ (p : Opened) (w : Waiting). message_two σ p (summed σ p w joined)) opened (under_is id (waits_one n) q)

    abbrev sums : Opened → Pending → Pending
    sums p = sums_noted σ p (first_sum σ 34 p.servers joined) (second_sum σ 34 p.servers joined)

    pub one_taken_lem : Facts σ → Beside σ o (one_table σ T id joined) (at (is_open (changed pending_id id (sums o) ws)) ds)
    unfolding one_table summed element_sum
    one_taken_lem facts =
        let d : ℕ = first_sum σ 34 o.servers joined in
        let e : ℕ = second_sum σ 34 o.servers joined in
        let j : ℕ = place_of id T.slots in
        record {
          parts = b.parts;
          is = b.is;
          sized = b.sized;
          opened_as_lem = b.opened_as_lem;
          tells = b.tells;
          staged = b.staged;
          listed = subst (λ (p : Opened).
              Listed σ o (changed pending_id id (sums o) ws)
              (set T.slots j (slot_of stage_two
              (with_sums (waiting_at p.columns (get_or T.slots j free_slot) (numbers_at p.columns T.elements j))
              (first_sum σ 34 p.servers joined) (second_sum σ 34 p.servers joined))))
              T.elements)
              (sym opened)
              (summed_listed σ o d e ws T.slots T.elements b.listed id n q (sum_below σ facts o.servers _)
              (sum_below σ facts o.servers _));
          room = omega (arith, b.room, as_many σ o ws id (sums o) (keeps_note σ o _ _));
        }

  -- ---- an accepted verdict
  pub accepted_taken : (id : ℕ) (n : Note) (x y : ℕ) → find pending_id id ws ≡ some (waitsTwo n x y)
      → Beside σ o (accepted_table σ T id) (at (is_open (changed pending_id id (accept_noted σ o) ws)) ds)
  unfolding accepted_table
  accepted_taken id n x y q =
      let j : ℕ = place_of id T.slots in
      record {
        parts = b.parts;
        is = b.is;
        sized = b.sized;
        opened_as_lem = b.opened_as_lem;
        tells = b.tells;
        staged = b.staged;
        listed = subst (λ (p : Opened).
            Listed σ o (changed pending_id id (accept_noted σ o) ws)
            (set T.slots j (slot_of stage_entry
            (waiting_at p.columns (get_or T.slots j free_slot) (numbers_at p.columns T.elements j))))
            T.elements)
            (sym opened) (accepted_listed σ o ws T.slots T.elements b.listed id n x y q);
        room = omega (arith, b.room, as_many σ o ws id (accept_noted σ o) (accept_keeps_note σ o));
      }
