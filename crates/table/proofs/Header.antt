-- The header of a table: its tests hold exactly where its facts do. Rules' header is the start and the sheet's reading,
-- whose answer is taken apart. Assumes nothing.
use mathlib.Core.Path.{◌≡◌, refl, sym}
use mathlib.Core.Bool.{Bool, true, false, not, ◌&&◌}
use mathlib.Core.List.{List}
use Prim.Native.Nat.{ℕ, ◌+◌, ◌≤◌}
use borrow.Author.Tests.{leb-true, ltb-true, eqb-true, le-leb, ne_eqb}
use lib.Dec.{eqb, ltb, leb}
use lib.ListN.{length, get_or}
use Rattle.algebra.proofs.Members.{and_left, and_right}
use Rattle.words.specs.Bytes.{value_of, part}
use Rattle.records.specs.Outcome.{ok, refused}
use Rattle.rules.specs.Settings.{document01}
use Rattle.rules.specs.Columns.{within, least_fits, sheet_fault}
use Rattle.rules.specs.Table.{header_length, sheet_in, columns_in, header_sound}
use Rattle.rules.proofs.Circuits.Limits.{within_both}
use Rattle.rules.proofs.Circuits.Refusals.{sheet_fault_lem}
use Rattle.columns.specs.declared.Counts.{Counts}
use Rattle.sheet.specs.Reading.{reading_of}
use Rattle.sheet.proofs.Answers.{reading_refused, reading_counts}
use Rattle.layout.specs.Numbers.{table_of}
use Rattle.table.specs.Reading.{head_in, start_sound, Started}

pub is_false : (b : Bool) → (b ≡ true → ⊥) → b ≡ false
is_false true h = absurd (h refl)
is_false false h = refl

pub and_assoc : (a b c : Bool) → (a && b) && c ≡ a && (b && c)
and_assoc true b c = refl
and_assoc false b c = refl

module _ (T : List ℕ) where
  -- the tests from the second, the third, .. on
  abbrev from7 : Bool
  from7 = leb (header_length + value_of (part 12 2 T)) (length T)

  abbrev from6 : Bool
  from6 = least_fits (value_of (part 4 2 T)) (value_of (part 10 2 T)) && from7

  abbrev from5 : Bool
  from5 = within 1 1024 (value_of (part 4 2 T)) && from6

  abbrev from4 : Bool
  from4 = ltb (get_or T 3 0) (get_or T 2 0) && from5

  abbrev from3 : Bool
  from3 = within 2 8 (get_or T 2 0) && from4

  abbrev from2 : Bool
  from2 = leb (get_or T 1 0) 1 && from3

  abbrev from1 : Bool
  from1 = eqb (get_or T 0 0) document01.table_byte && from2

  pub start_facts : start_sound T ≡ true → Started T
  unfolding start_sound
  start_facts e =
      let e1 = and_right (leb header_length (length T)) from1 e in
      let e2 = and_right (eqb (get_or T 0 0) document01.table_byte) from2 e1 in
      let e3 = and_right (leb (get_or T 1 0) 1) from3 e2 in
      let e4 = and_right (within 2 8 (get_or T 2 0)) from4 e3 in
      let e5 = and_right (ltb (get_or T 3 0) (get_or T 2 0)) from5 e4 in
      let e6 = and_right (within 1 1024 (value_of (part 4 2 T))) from6 e5 in
      let e7 = and_right (least_fits (value_of (part 4 2 T)) (value_of (part 10 2 T))) from7 e6 in
      let servers = within_both 2 8 (get_or T 2 0) (and_left (within 2 8 (get_or T 2 0)) from4 e3) in
      let returns = within_both 1 1024 (value_of (part 4 2 T)) (and_left (within 1 1024 (value_of (part 4 2 T))) from6 e5) in
      record {
        header_long = leb-true header_length (length T) (and_left (leb header_length (length T)) from1 e);
        byte_is = eqb-true (get_or T 0 0) document01.table_byte (and_left (eqb (get_or T 0 0) document01.table_byte) from2 e1);
        stage_most = leb-true (get_or T 1 0) 1 (and_left (leb (get_or T 1 0) 1) from3 e2);
        servers_some = servers.0;
        servers_few = servers.1;
        own_one = ltb-true (get_or T 3 0) (get_or T 2 0) (and_left (ltb (get_or T 3 0) (get_or T 2 0)) from5 e4);
        returns_some = returns.0;
        returns_most = returns.1;
        least_fits_lem = and_left (least_fits (value_of (part 4 2 T)) (value_of (part 10 2 T))) from7 e6;
        sheet_long = leb-true (header_length + value_of (part 12 2 T)) (length T) e7;
      }

  -- the tests of the code, one after another: v says of all but the last whether they hold
  pub start_is : (v : Bool) → header_length ≤ length T
      → v ≡ ((((eqb (get_or T 0 0) document01.table_byte && leb (get_or T 1 0) 1) && within 2 8 (get_or T 2 0))
      && ltb (get_or T 3 0) (get_or T 2 0))
      && within 1 1024 (value_of (part 4 2 T)))
      && least_fits (value_of (part 4 2 T)) (value_of (part 10 2 T))
      → v && leb (header_length + value_of (part 12 2 T)) (length T) ≡ start_sound T
  unfolding start_sound
  start_is v h e = rw (e, le-leb header_length (length T) h) (simp and_assoc)

  pub not_started : (Started T → ⊥) → false ≡ start_sound T
  not_started h = sym (is_false (start_sound T) (λ e. h (start_facts e)))

  pub header_is : header_sound document01 T ≡ start_sound T && eqb (sheet_fault (sheet_in document01 T)) 0
  unfolding header_sound start_sound
  header_is = simp and_assoc

-- ---- the sheet's answer
module _ (T : List ℕ) where
  pub head_not_started : start_sound T ≡ false → refused 11 ≡ head_in T
  unfolding head_in
  head_not_started e = rw (header_is T, e)

  -- the sheet x, r bytes long
  module _ (r : ℕ) (e : r ≡ value_of (part 12 2 T)) (x : List ℕ) (ex : x ≡ part header_length r T) (s : start_sound T ≡ true) where
    the_sheet : x ≡ sheet_in document01 T
    the_sheet = rw e at ex

    pub head_refused : (n : ℕ) → reading_of x ≡ refused n → refused 11 ≡ head_in T
    unfolding head_in
    head_refused n h =
        let o = reading_refused (sheet_in document01 T) n (rw the_sheet at h) in
        rw (header_is T, s, o.0, ne_eqb n 0 o.1)

    pub head_counted : (c : Counts) → reading_of x ≡ ok c
        → ok (
        record {
          closed = not (eqb (get_or T 1 0) 0);
          servers = get_or T 2 0;
          own = get_or T 3 0;
          returns = value_of (part 4 2 T);
          decided = value_of (part 6 2 T);
          entered = value_of (part 8 2 T);
          least = value_of (part 10 2 T);
          sheet = value_of (part 12 2 T);
          columns = c.columns;
          entries = c.entries;
          published = c.published;
          gates = c.gates;
          tests = c.tests;
        }
        )
        ≡ head_in T
    unfolding head_in table_of
    head_counted c h =
        let o = reading_counts (sheet_in document01 T) c (rw the_sheet at h) in
        let f = sheet_fault_lem (sheet_in document01 T) (columns_in document01 T) o.0 in
        rw (header_is T, s, f.0, o.1)
