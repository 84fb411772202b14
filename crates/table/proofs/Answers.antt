-- What the reader of a table finds: where the header is sound, the parts of the judgement decide; and what a sound table
-- keeps to. Each part of the code is rules' part at what the table says (`counts_is`, `totals_is`,
-- `records_are`).
-- Assumes nothing.
use mathlib.Core.Path.{◌≡◌, refl, sym, ◌∙◌}
use mathlib.Core.Bool.{Bool, true, false, cond, ◌&&◌}
use mathlib.Core.List.{List}
use Prim.Native.Nat.{ℕ, ◌+◌, ◌*◌, ◌≤◌}
use native.Mathlib.Omega.{arith}
use borrow.Author.Tests.{leb-true, eqb-true}
use lib.Dec.{leb, eqb}
use lib.ListN.{length}
use Rattle.algebra.proofs.Members.{and_left, and_right}
use Rattle.words.specs.Bytes.{all_below}
use Rattle.words.proofs.Splice.{length_part}
use Rattle.records.specs.Outcome.{Outcome, ok, refused}
use Rattle.rules.specs.Settings.{document01}
use Rattle.rules.specs.Columns.{check, sheet_fault, totals_fit}
use Rattle.rules.specs.Judging.{share_size}
use Rattle.rules.specs.WaitingList.{waiting_count, run_size, records_sound, waiting_sound}
use Rattle.rules.specs.Table.{header_length, Lent, sheet_size, sheet_in, columns_in, columns_at, totals_in, table_length}
use Rattle.rules.specs.Table.{totals_place, header_sound, counts_sound, table_sound, table_fault}
use Rattle.rules.proofs.Circuits.Refusals.{sheet_limits_lem}
use Rattle.layout.specs.Numbers.{table_of}
use Rattle.layout.specs.Places.{place_size_of}
use Rattle.layout.specs.declared.Table.{Table}
use Rattle.waiting.specs.Soundness.{waiting_sound_at}
use Rattle.waiting.proofs.Limits.{waiting_sound_lem}
use Rattle.table.specs.Reading.{head_in, found_in, start_sound, length_of, counts_sound_at, totals_sound_at, Headed, Whole, Sound}
use Rattle.table.proofs.Header.{start_facts, header_is}

-- ---- a choice between a table and none
abbrev pub found_by : Bool → Table → Outcome Table
found_by b x = cond b (ok x) (refused (check b 11))

table_of_lem : (b : Bool) (x k : Table) → found_by b x ≡ ok k → (b ≡ true) × (k ≡ x)
table_of_lem true x k e = (refl, cc)
table_of_lem false x k e = let z : ◌≡◌ {A = ℕ} 0 1 = cc in absurd (omega arith)

none_of : (b : Bool) (x : Table) (n : ℕ) → found_by b x ≡ refused n → (b ≡ false) × (n ≡ 11)
none_of true x n e = let z : ◌≡◌ {A = ℕ} 0 1 = cc in absurd (omega arith)
none_of false x n e = (refl, cc)

-- ---- the header
headed_at : (T : List ℕ) → header_sound document01 T ≡ true → Headed T (table_of T)
unfolding table_of
headed_at T e =
    let both : start_sound T && eqb (sheet_fault (sheet_in document01 T)) 0 ≡ true = sym (header_is T) ∙ e in
    let f = start_facts T (and_left (start_sound T) (eqb (sheet_fault (sheet_in document01 T)) 0) both) in
    let none : sheet_fault (sheet_in document01 T) ≡ 0
    = eqb-true (sheet_fault (sheet_in document01 T)) 0 (and_right (start_sound T) (eqb (sheet_fault (sheet_in document01 T)) 0) both) in
    let l = sheet_limits_lem (sheet_in document01 T) none in
    let n : length (sheet_in document01 T) ≡ sheet_size document01 T = length_part header_length (sheet_size document01 T) T f.sheet_long in
    record {
      says = refl;
      limited =
          record {
            servers_some = f.servers_some;
            servers_few = f.servers_few;
            own_one = f.own_one;
            returns_some = f.returns_some;
            returns_most = f.returns_most;
            sheet_most = omega (arith, l.bytes_most, l.entries_most);
            entries_most = l.entries_most;
            published_most = omega (arith, l.published_most, l.entries_most);
            gates_most = omega (arith, l.gates_most, l.entries_most);
          };
      header = e;
      sheet_long = f.sheet_long;
      no_fault_lem = none;
    }

pub headed : (T : List ℕ) (k : Table) → head_in T ≡ ok k → Headed T k
unfolding head_in
headed T k e = let b = table_of_lem (header_sound document01 T) (table_of T) k e in rw b.1 (headed_at T b.0)

-- ---- the parts of the judgement are rules'
counts_is : (T : List ℕ) (waiting : ℕ) → counts_sound document01 T waiting ≡ counts_sound_at (table_of T) waiting T
unfolding counts_sound counts_sound_at table_of table_length
counts_is T waiting = refl

totals_is : (T : List ℕ) → all_below 2147483647 (totals_in document01 T) ≡ totals_sound_at (table_of T) T
unfolding totals_sound_at table_of totals_place
totals_is T = refl

-- the records and their numbers, by the numbers of a table
abbrev pub records_keep : Table → Lent → Bool
records_keep k T = waiting_sound_at k.gates (place_size_of k.entries k.gates) T.slots T.elements

records_are : (T : Lent) → length T.slots ≡ 8
    → waiting_sound document01 (columns_at document01 T) T.slots T.elements ≡ records_keep (table_of T.bytes) T
unfolding table_of share_size
records_are T h = waiting_sound_lem (columns_at document01 T) T.slots T.elements h

-- ---- counts that are sound bound the table
counts_long : (k : Table) (waiting : ℕ) (T : List ℕ) → counts_sound_at k waiting T ≡ true
    → (length_of k ≤ length T) × (k.decided + waiting ≤ k.returns) × (k.entered ≤ k.decided)
unfolding counts_sound_at
counts_long k waiting T e =
    let fit = totals_fit document01 k.returns (columns_in document01 T) in
    let long = leb (length_of k) (length T) in
    let few = leb (k.decided + waiting) k.returns in
    let less = leb k.entered k.decided in
    let e1 = and_right fit (long && (few && less)) e in
    let e2 = and_right long (few && less) e1 in (
      leb-true _ _ (and_left long (few && less) e1),
      leb-true _ _ (and_left few less e2),
      leb-true _ _ (and_right few less e2),
    )

pub whole : (T : List ℕ) (k : Table) (waiting : ℕ) → Headed T k → counts_sound_at k waiting T ≡ true → Whole T k
whole T k waiting h e = record { limited = h.limited; long = (counts_long k waiting T e).0 }

-- ---- what is found
module _ (T : Lent) where
  abbrev bytes : List ℕ
  bytes = T.bytes

  abbrev waiting : ℕ
  waiting = waiting_count T.slots

  pub found_headless : (n : ℕ) → head_in bytes ≡ refused n → refused n ≡ found_in T
  unfolding head_in found_in table_sound table_fault
  found_headless n e = let b = none_of (header_sound document01 bytes) (table_of bytes) n e in rw (b.0, b.1)

  module _ (h : header_sound document01 bytes ≡ true) where
    counts_at : counts_sound_at (table_of bytes) waiting bytes ≡ false → refused 11 ≡ found_in T
    unfolding found_in table_sound table_fault
    counts_at c = rw (h, counts_is bytes waiting, c)

    module _ (c : counts_sound_at (table_of bytes) waiting bytes ≡ true) where
      totals_at_lem : totals_sound_at (table_of bytes) bytes ≡ false → refused 11 ≡ found_in T
      unfolding found_in table_sound table_fault
      totals_at_lem t = rw (h, counts_is bytes waiting, c, totals_is bytes, t)

      records_at_lem : totals_sound_at (table_of bytes) bytes ≡ true → length T.slots ≡ 8
          → found_by (records_keep (table_of bytes) T) (table_of bytes) ≡ found_in T
      unfolding found_in table_sound table_fault
      records_at_lem t eight = rw (h, counts_is bytes waiting, c, totals_is bytes, t, records_are T eight) refl

module _ (T : Lent) (k : Table) (h : Headed T.bytes k) where
  pub found_counts : counts_sound_at k (waiting_count T.slots) T.bytes ≡ false → refused 11 ≡ found_in T
  found_counts = rw h.says (counts_at T h.header)

  pub found_totals : counts_sound_at k (waiting_count T.slots) T.bytes ≡ true → totals_sound_at k T.bytes ≡ false
      → refused 11 ≡ found_in T
  found_totals = rw h.says (totals_at_lem T h.header)

  pub found_records : counts_sound_at k (waiting_count T.slots) T.bytes ≡ true → totals_sound_at k T.bytes ≡ true
      → length T.slots ≡ 8 → found_by (records_keep k T) k ≡ found_in T
  found_records = rw h.says (records_at_lem T h.header)

-- ---- a sound table
-- the parts that a sound table has
tests : (T : Lent) → table_sound document01 T ≡ true
    → (header_sound document01 T.bytes ≡ true)
    × (counts_sound document01 T.bytes (waiting_count T.slots) ≡ true)
    × (waiting_sound document01 (columns_at document01 T) T.slots T.elements ≡ true)
unfolding table_sound
tests T e =
    let head = header_sound document01 T.bytes in
    let counts = counts_sound document01 T.bytes (waiting_count T.slots) in
    let totals = all_below 2147483647 (totals_in document01 T.bytes) in
    let waits = waiting_sound document01 (columns_at document01 T) T.slots T.elements in
    let rest = and_right head (counts && (totals && waits)) e in (
      and_left head (counts && (totals && waits)) e,
      and_left counts (totals && waits) rest,
      and_right totals waits (and_right counts (totals && waits) rest),
    )

-- eight records, a run that has room for them, and the limits of each
pub run : (T : Lent) → table_sound document01 T ≡ true
    → (length T.slots ≡ 8)
    × (run_size (columns_at document01 T) ≤ length T.elements)
    × (records_sound document01 (columns_at document01 T) T.elements 0 T.slots ≡ true)
unfolding waiting_sound
run T e =
    let w = (tests T e).2 in
    let eight = eqb (length T.slots) 8 in
    let long = leb (run_size (columns_at document01 T)) (length T.elements) in
    let each = records_sound document01 (columns_at document01 T) T.elements 0 T.slots in
    let rest = and_right eight (long && each) w in
    (eqb-true _ _ (and_left eight (long && each) w), leb-true _ _ (and_left long each rest), and_right long each rest)

run_at : (T : Lent) → table_sound document01 T ≡ true
    → place_size_of (table_of T.bytes).entries (table_of T.bytes).gates * 8 ≤ length T.elements
unfolding table_of share_size
run_at T e = (run T e).1

sound_at_lem : (T : Lent) → table_sound document01 T ≡ true → Sound T (table_of T.bytes)
sound_at_lem T e =
    let h = headed_at T.bytes (tests T e).0 in
    let c : counts_sound_at (table_of T.bytes) (waiting_count T.slots) T.bytes ≡ true
    = sym (counts_is T.bytes (waiting_count T.slots)) ∙ (tests T e).1 in
    let l = counts_long (table_of T.bytes) (waiting_count T.slots) T.bytes c in
    record {
      says = refl;
      limited = h.limited;
      is_sound = e;
      long = l.0;
      eight = (run T e).0;
      run_long = run_at T e;
      decided_few = l.1;
      entered_few = l.2;
    }

pub headed_of : (T : Lent) (k : Table) → Sound T k → Headed T.bytes k
headed_of T k s = rw s.says (headed_at T.bytes (tests T s.is_sound).0)

pub sound : (T : Lent) (k : Table) → found_in T ≡ ok k → Sound T k
unfolding found_in table_fault
sound T k e = let b = table_of_lem (table_sound document01 T) (table_of T.bytes) k e in rw b.1 (sound_at_lem T b.0)

pub unsound : (T : Lent) (n : ℕ) → found_in T ≡ refused n → (table_fault document01 T ≡ n) × (n ≡ 0 → ⊥)
unfolding found_in table_fault
unsound T n e =
    let b = none_of (table_sound document01 T) (table_of T.bytes) n e in (rw (b.0, b.1), λ z. omega (arith, b.1))

pub not_refused : (T : Lent) (k : Table) → Sound T k → table_fault document01 T ≡ 0
unfolding table_fault
not_refused T k s = rw s.is_sound
