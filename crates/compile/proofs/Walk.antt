-- A walk over the columns of a sheet that is read: what is written of the first k columns' steps. Each law takes one column,
-- or the end. Assumes that the sheet is read, where it is said.
use mathlib.Core.Path.{◌≡◌, refl, ap, ◌∙◌}
use mathlib.Core.List.{List, ◌∷◌}
use Prim.Native.Nat.{ℕ, ◌+◌, ◌≤◌}
use native.Mathlib.Omega.{arith}
use lib.ListN.{length, get_or, take}
use lib.Seq.{take_all}
use Rattle.words.specs.Bytes.{bytes_of}
use Rattle.rules.specs.Settings.{document01}
use Rattle.rules.specs.Columns.{Column, yes_no, entries_in, columns_of}
use Rattle.rules.specs.Circuit.{column_steps, wires_of, circuit_from, wires_in}
use Rattle.rules.specs.CircuitReader.{sheet_circuit}
use Rattle.rules.specs.Sizes.{column_size}
use Rattle.rules.proofs.Circuits.Limits.{limits}
use Rattle.columns.specs.Kinds.{from_code}
use Rattle.columns.proofs.Sums.{entries, total_next, total_most}
use Rattle.sheet.specs.declared.cursor.Cursor.{Cursor}
use Rattle.sheet.specs.declared.cursor.Step.{Step}
use Rattle.sheet.specs.Cursor.{step_at, Stands}
use Rattle.sheet.proofs.Walks.{next_index, column_seen}
use Rattle.compile.specs.Writing.{Put}
use Rattle.compile.proofs.Puts.{put_on, put_as, put_none}
use Rattle.compile.proofs.Runs.{bytes}
use Rattle.compile.proofs.Columns.{sizes_in, sizes, wires, from_none, from_next, sheet_is, sheet_long}

-- what the first k columns have written, from a place on
pub record Wrote (s out : List ℕ) (from k wire : ℕ) (now : List ℕ) (at : ℕ) : Type 0 where
  pub wire_is : wire ≡ 1 + wires_in (take k (columns_of s))
  pub so_far : Put out from (sizes_in (take k (columns_of s))) (bytes (circuit_from document01 0 1 (take k (columns_of s)))) now at

pub wrote_start : (s out : List ℕ) (from : ℕ) → from ≤ length out → Wrote s out from 0 1 out from
unfolding sizes_in wires_in
wrote_start s out from h =
    record { wire_is = refl; so_far = put_as (put_none out from h) 0 _ _ refl from_none refl }

pub wrote_end : {s out first now : List ℕ} {from k wire at : ℕ} → Wrote s first from k wire now at → length (columns_of s) ≤ k
    → Put out 0 5 (1 ∷ bytes_of 4 2147483646) first from
    → Put out 0 (length (sheet_circuit document01 s)) (sheet_circuit document01 s) now at
wrote_end {s} {k = k} w h p =
    let all : take k (columns_of s) ≡ columns_of s = take_all k (columns_of s) h in
    put_as (put_on p w.so_far) _ _ _ (rw all (sheet_long s)) (rw all (sheet_is s)) refl

-- ---- at a column of a sheet that is read
module _ {s : List ℕ} {c : Cursor} (h : Stands s c) (r : Step) (e : r ≡ step_at s c.index) where
  abbrev cs : List Column
  cs = columns_of s

  entry_is : c.entry ≡ entries_in (take c.index cs)
  entry_is = ap (λ (x : Cursor). x.entry) h.here

  -- there is room for the column, and its numbers are small
  pub record Room (now : List ℕ) (wire at : ℕ) : Type 0 where
    pub room : at + column_size document01 (from_code r.column) ≤ length now
    pub entry_most : c.entry ≤ 256
    pub wire_most : wire + wires_of (from_code r.column) ≤ 1275

  pub wrote_room : {out now : List ℕ} {from wire at : ℕ} → from + length (sheet_circuit document01 s) ≤ length out + 5
      → Wrote s out from c.index wire now at → Room now wire at
  wrote_room long w =
      let m = limits s cs h.is_read in
      let p = w.so_far in
      record {
        room = rw (column_seen h r e) (omega (arith, total_most sizes cs c.index h.within, sheet_long s));
        entry_most = omega (arith, entry_is, total_most entries cs c.index h.within, m.entries_most);
        wire_most =
            rw (column_seen h r e) (omega (arith, w.wire_is, total_most wires cs c.index h.within, m.wires_most));
      }

  pub wrote_next : {out now next : List ℕ} {from wire at end moved : ℕ} → Wrote s out from c.index wire now at
      → moved ≡ wires_of (from_code r.column)
      → Put now at (column_size document01 (from_code r.column))
      (bytes (column_steps document01 c.entry wire (from_code r.column))) next end
      → Wrote s out from r.next.index (wire + moved) next end
  wrote_next {moved = moved} w y p =
      let n : moved ≡ wires_of (get_or cs c.index yes_no) = y ∙ ap wires_of (column_seen h r e) in
      rw (next_index h r e)
      (record {
        wire_is = omega (arith, w.wire_is, total_next wires cs c.index h.within);
        so_far =
            put_as (put_on w.so_far p) _ _ _
            (rw (column_seen h r e) (total_next sizes cs c.index h.within))
            (from_next cs c.index h.within ∙ rw (entry_is, w.wire_is, column_seen h r e))
            refl;
      })
