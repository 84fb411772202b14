-- Laws of the cursor over the columns of a sheet that is read: where it starts, goes on and ends, the bytes that stand under
-- it, and that no count passes the sheet's. A loop keeps `c ≡ cursor_at s c.index` by them.
-- Assumes that the sheet is read, where it is said.
use mathlib.Core.Path.{◌≡◌, sym, subst}
use mathlib.Core.List.{List}
use Prim.Native.Nat.{ℕ, ◌+◌, ◌-◌, ◌≤◌, ◌<◌}
use native.Mathlib.Omega.{arith}
use lib.ListN.{length, get_or}
use lib.Seq.{take_all}
use Rattle.algebra.proofs.Members.{all_get_d}
use Rattle.words.specs.Bytes.{part}
use Rattle.records.specs.Outcome.{ok}
use Rattle.rules.specs.Columns.{Column, yes_no, column_of, entries_of, published_of, entries_in, published_in}
use Rattle.rules.specs.Columns.{read_sheet, columns_of}
use Rattle.rules.specs.Circuit.{gates_of, gates_in}
use Rattle.rules.proofs.Circuits.Limits.{InLimits, limits}
use Rattle.columns.specs.Kinds.{bytes_of_kind}
use Rattle.columns.proofs.Sums.{entries, published, gates, total_next, total_most}
use Rattle.sheet.specs.declared.cursor.Cursor.{Cursor}
use Rattle.sheet.specs.Cursor.{cursor_at, Stands}
use Rattle.sheet.proofs.SheetBytes.{placed, bytes}

-- ---- what stands under a cursor
pub record Place (s : List ℕ) (c : Cursor) : Type 0 where
  pub in_limits : InLimits (get_or (columns_of s) c.index yes_no)
  pub size_some : 1 ≤ bytes_of_kind (get_or s c.at 0)
  pub size_fits : c.at + bytes_of_kind (get_or s c.at 0) ≤ length s
  pub index_fits : c.index + 1 ≤ 256
  pub entries_fit : c.entry + entries_of (get_or (columns_of s) c.index yes_no) ≤ entries_in (columns_of s)
  pub published_fit : c.published + published_of (get_or (columns_of s) c.index yes_no) ≤ published_in (columns_of s)
  pub gates_fit : c.gates + gates_of (get_or (columns_of s) c.index yes_no) ≤ gates_in (columns_of s)
  pub entries_most : entries_in (columns_of s) ≤ 256
  pub published_most : published_in (columns_of s) ≤ 256
  pub gates_most : gates_in (columns_of s) ≤ 256
  pub column_is : column_of (get_or s c.at 0) (part (c.at + 1) (bytes_of_kind (get_or s c.at 0) - 1) s)
      ≡ ok (get_or (columns_of s) c.index yes_no)
  pub next_is : cursor_at s (c.index + 1)
      ≡ record {
        index = c.index + 1;
        at = c.at + bytes_of_kind (get_or s c.at 0);
        entry = c.entry + entries_of (get_or (columns_of s) c.index yes_no);
        published = c.published + published_of (get_or (columns_of s) c.index yes_no);
        gates = c.gates + gates_of (get_or (columns_of s) c.index yes_no);
      }

module _ (s : List ℕ) (is_read : read_sheet s ≡ ok (columns_of s)) where
  cs : List Column
  cs = columns_of s

  place_at : (k : ℕ) → k < length (columns_of s) → Place s (cursor_at s k)
  unfolding cs
  place_at k h =
      let m = limits s cs is_read in
      let t = (placed s cs is_read).told k h in
      record {
        in_limits = all_get_d yes_no m.in_limits k h;
        size_some = t.size_some;
        size_fits = t.size_fits;
        index_fits = omega (arith, m.columns_most, m.entries_most);
        entries_fit = total_most entries cs k h;
        published_fit = total_most published cs k h;
        gates_fit = total_most gates cs k h;
        entries_most = m.entries_most;
        published_most = omega (arith, m.published_most, m.entries_most);
        gates_most = omega (arith, m.gates_most, m.entries_most);
        column_is = t.column_is;
        next_is =
            rw (
              total_next bytes cs k h,
              total_next entries cs k h,
              total_next published cs k h,
              total_next gates cs k h,
              t.size_is,
            );
      }

  -- ---- for a loop over the columns
  pub cursor_end : (k : ℕ) → length (columns_of s) ≤ k
      → cursor_at s k
      ≡ record {
        index = k;
        at = length s;
        entry = entries_in (columns_of s);
        published = published_in (columns_of s);
        gates = gates_in (columns_of s);
      }
  cursor_end k h = rw (take_all k (columns_of s) h, (placed s (columns_of s) is_read).long)

pub place : {s : List ℕ} {c : Cursor} → Stands s c → Place s c
place {s} {c} t = subst (Place s) (sym t.here) (place_at s t.is_read c.index t.within)
