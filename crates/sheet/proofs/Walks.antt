-- Laws for a loop over the columns of a sheet that is read. Its invariant is `Walks s c`; it goes on while the cursor's index
-- is below the number of columns, or its place below the number of bytes. Assumes that the sheet is read, where it is said.
use mathlib.Core.Path.{◌≡◌, refl, sym, ap, ◌∙◌}
use mathlib.Core.Logic.{⊎_elim}
use mathlib.Core.Bool.{Bool, true, ◌&&◌}
use mathlib.Core.List.{List}
use Prim.Native.Nat.{ℕ, ◌+◌, ◌≤◌, ◌<◌}
use native.Mathlib.Nat.{eq-or-lt_of_le}
use native.Mathlib.Numerals.{add-one}
use native.Mathlib.Omega.{arith}
use lib.ListN.{length, get_or, drop, drop_of_length-le}
use lib.Seq.{drop-cons}
use Rattle.algebra.specs.Lists.{every}
use Rattle.records.specs.Outcome.{ok}
use Rattle.rules.specs.Columns.{yes_no, entries_in, published_in, read_sheet, columns_of}
use Rattle.rules.specs.Circuit.{gates_in}
use Rattle.rules.proofs.Circuits.Limits.{InLimits}
use Rattle.columns.specs.Kinds.{from_code}
use Rattle.columns.proofs.ColumnBytes.{from_to_code}
use Rattle.sheet.specs.declared.cursor.Cursor.{Cursor}
use Rattle.sheet.specs.declared.cursor.Step.{Step}
use Rattle.sheet.specs.Cursor.{begin, Stands, Walks, step_at}
use Rattle.sheet.specs.Walk.{Passes}
use Rattle.sheet.specs.declared.cursor.Place.{Place}
use Rattle.sheet.proofs.Cursors.{place, cursor_end}

pub walk_start : (s : List ℕ) (c : Cursor) → c ≡ begin → Walks s c
walk_start s c e = rw e (record { here = refl; most = omega arith })

module _ (s : List ℕ) (c : Cursor) (is_read : read_sheet s ≡ ok (columns_of s)) (w : Walks s c) where
  pub stands_by_index : c.index < length (columns_of s) → Stands s c
  stands_by_index h = record { is_read = is_read; here = w.here; within = h }

  pub stands_by_place : c.at < length s → Stands s c
  stands_by_place h = ⊎_elim last (λ l. stands_by_index l) (eq-or-lt_of_le w.most)
    where
      last : c.index ≡ length (columns_of s) → Stands s c
      last e =
          let z : c.at ≡ length s
          = ap (λ (x : Cursor). x.at) (w.here ∙ cursor_end s is_read c.index (omega arith)) in
          absurd (omega arith)

  -- behind the last column
  pub walk_end : length s ≤ c.at → c.index ≡ length (columns_of s)
  walk_end h = ⊎_elim (λ e. e) more (eq-or-lt_of_le w.most)
    where
      more : c.index < length (columns_of s) → c.index ≡ length (columns_of s)
      more l = let p = place (stands_by_index l) in absurd (omega arith)

  -- there the cursor has passed all that the sheet has
  pub walk_done : length (columns_of s) ≤ c.index
      → c
      ≡ record {
        index = c.index;
        at = length s;
        entry = entries_in (columns_of s);
        published = published_in (columns_of s);
        gates = gates_in (columns_of s);
      }
  walk_done h = w.here ∙ cursor_end s is_read c.index h

module _ {s : List ℕ} {c : Cursor} (h : Stands s c) (r : Step) (e : r ≡ step_at s c.index) where
  pub walk_next : Walks s r.next
  walk_next = rw e (record { here = refl; most = omega (arith, h.within) })

  pub next_index : r.next.index ≡ c.index + 1
  next_index = ap (λ (x : Step). x.next.index) e

  pub column_seen : from_code r.column ≡ get_or (columns_of s) c.index yes_no
  column_seen = ap (λ (x : Step). from_code x.column) e ∙ from_to_code (get_or (columns_of s) c.index yes_no)

  pub column_limited : InLimits (from_code r.column)
  column_limited = rw column_seen (place h).in_limits

-- a test over the members from place k on
module _ {A : Type 0} (t : A → Bool) (d : A) (l : List A) (k : ℕ) where
  pub every_next : k < length l → every t (drop k l) ≡ t (get_or l k d) && every t (drop (k + 1) l)
  unfolding every
  every_next h = rw (add-one, drop-cons l k d h)

  pub every_end : length l ≤ k → every t (drop k l) ≡ true
  unfolding every
  every_end h = rw (drop_of_length-le l {i = k} h)

-- what a walk over the sheet s passes, where its own sheet is s
pub passed : {s t : List ℕ} {c c' : Cursor} {p : Place} → t ≡ s → Passes t c p c' → Passes s c p c'
passed e h = rw (sym e) h

pub ended : {s t : List ℕ} {k : ℕ} → t ≡ s → k ≡ length (columns_of t) → k ≡ length (columns_of s)
ended e h = rw (sym e) h
