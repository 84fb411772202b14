-- A table whose pieces and records are within the limits is within the limits. Each test of `table_sound` is one fact of them.
-- Assumes nothing.
use mathlib.Core.Path.{◌≡◌, refl, ap, ap₂, ◌∙◌}
use mathlib.Core.Bool.{Bool, true}
use mathlib.Core.List.{List}
use Prim.Native.Nat.{ℕ, ◌+◌, ◌≤◌}
use native.Mathlib.Omega.{arith}
use borrow.Author.Tests.{le-leb, eq-eqb}
use lib.Dec.{ltb}
use lib.ListN.{length, length-append}
use Rattle.algebra.proofs.Members.{and-true}
use Rattle.words.specs.Bytes.{bytes_of, elements_of, all_below}
use Rattle.slots.specs.declared.Slot.{Slot}
use Rattle.rules.specs.Settings.{Setting}
use Rattle.rules.specs.Columns.{Column, within, least_fits, check, fault_in, sheet_fault, totals_fit}
use Rattle.rules.specs.WaitingList.{waiting_count, waiting_sound}
use Rattle.rules.specs.Table.{Lent, stage_closed, table_length, sheet_size, sheet_in, columns_in, returns_in, decided_in, entered_in}
use Rattle.rules.specs.Table.{header_length, header_sound, counts_sound, table_sound, table_fault}
use Rattle.rules.proofs.Tables.Parts.{Parts, Sized, body, assemble, placed, columns_in_lem, size_is, sheet_is}
use Rattle.rules.proofs.Tables.Parts.{returns_are, decided_are, entered_are, least_is}
use Rattle.rules.proofs.Tables.State.{totals_are}

-- by the number of returns that wait
pub record Limited (σ : Setting) (cs : List Column) (g : Parts) (waiting : ℕ) : Type 0 where
  pub servers_fit_lem : within 2 8 g.servers ≡ true
  pub own_fits : ltb g.own g.servers ≡ true
  pub returns_fit_lem : within 1 1024 g.returns ≡ true
  pub least_fits_lem : least_fits g.returns g.least ≡ true
  pub totals_fit_lem : totals_fit σ g.returns cs ≡ true
  pub stage_fits : g.stage ≤ stage_closed
  pub decided_fit : g.decided + waiting ≤ g.returns
  pub totals_below : all_below σ.modulus (elements_of σ.width g.totals) ≡ true

module _ (σ : Setting) (cs : List Column) (g : Parts) (z : Sized σ cs g) (xs : List Slot) (es : List ℕ)
    (m : Limited σ cs g (waiting_count xs)) (waits : waiting_sound σ cs xs es ≡ true) where
  abbrev T : List ℕ
  T = assemble σ g

  length_is : length T ≡ header_length + (length g.sheet + (length g.totals + (length g.ids + length g.rest)))
  unfolding assemble bytes_of
  length_is =
      let parts : length (body g) ≡ length g.sheet + (length g.totals + (length g.ids + length g.rest))
      = simp length-append in
      omega arith

  header_sound_lem : header_sound σ T ≡ true
  unfolding header_sound assemble
  header_sound_lem =
      let long : header_length ≤ length T = omega (arith, length_is) in
      let sheet : header_length + sheet_size σ T ≤ length T = omega (arith, length_is, size_is σ cs g z) in
      let no_fault_lem : sheet_fault (sheet_in σ T) ≡ 0 =
      ap sheet_fault (sheet_is σ cs g z) ∙ ap fault_in z.reads ∙ (unfold fault_in in refl) in
      and-true _ _ (le-leb header_length (length T) long)
      (and-true _ _ (eq-eqb σ.table_byte σ.table_byte refl)
      (and-true _ _ (le-leb g.stage stage_closed m.stage_fits)
      (and-true _ _ m.servers_fit_lem
      (and-true _ _ m.own_fits
      (and-true _ _ (ap (within 1 1024) (returns_are σ cs g z) ∙ m.returns_fit_lem)
      (and-true _ _ (ap₂ least_fits (returns_are σ cs g z) (least_is σ cs g z) ∙ m.least_fits_lem)
      (and-true _ _ (le-leb (header_length + sheet_size σ T) (length T) sheet) (eq-eqb (sheet_fault (sheet_in σ T)) 0 no_fault_lem))))))))

  counts_sound_lem : counts_sound σ T (waiting_count xs) ≡ true
  unfolding counts_sound assemble table_length
  counts_sound_lem =
      let room : table_length σ (sheet_size σ T) (columns_in σ T) (returns_in σ T)
      ≡ table_length σ (length g.sheet) cs g.returns = placed σ cs g z (table_length σ) in
      and-true _ _ (placed σ cs g z (λ n c N. totals_fit σ N c) ∙ m.totals_fit_lem)
      (and-true _ _
      (le-leb (table_length σ (sheet_size σ T) (columns_in σ T) (returns_in σ T)) (length T)
      (omega (arith, room, length_is, z.totals_long, z.ids_long)))
      (and-true _ _
      (le-leb (decided_in σ T + waiting_count xs) (returns_in σ T)
      (omega (arith, decided_are σ cs g z, returns_are σ cs g z, m.decided_fit)))
      (le-leb (entered_in σ T) (decided_in σ T) (omega (arith, decided_are σ cs g z, entered_are σ cs g z, z.entered_few)))))

  abbrev lent : Lent
  lent = record { bytes = T; slots = xs; elements = es }

  table_sound_lem : table_sound σ lent ≡ true
  unfolding table_sound
  table_sound_lem =
      and-true _ _ header_sound_lem
      (and-true _ _ counts_sound_lem
      (and-true _ _ (ap (all_below σ.modulus) (totals_are σ cs g z) ∙ m.totals_below)
      (ap (λ (c : List Column). waiting_sound σ c xs es) (columns_in_lem σ cs g z) ∙ waits)))

  pub no_table_fault : table_fault σ lent ≡ 0
  unfolding table_fault
  no_table_fault = ap (λ (b : Bool). check b 11) table_sound_lem
