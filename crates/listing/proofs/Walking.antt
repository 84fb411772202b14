-- The walk over a sheet's columns that writes their lines. Before column k the lines of the first k columns are put there; the
-- cursor's step tells how many entries column k publishes. Assumes that the sheet is read.
use mathlib.Core.Path.{◌≡◌, sym, ap, ◌∙◌}
use mathlib.Core.List.{List}
use Prim.Native.Nat.{ℕ, ◌+◌, ◌-◌, ◌≤◌}
use native.Mathlib.Omega.{arith}
use lib.ListN.{length, get_or, take, drop}
use lib.Seq.{take_all}
use Rattle.words.specs.Bytes.{elements_of}
use Rattle.rules.specs.Columns.{Column, yes_no, published_of, published_in, columns_of}
use Rattle.rules.specs.Recount.{option_lines, column_lines}
use Rattle.columns.proofs.Sums.{published, total_next}
use Rattle.sheet.specs.declared.cursor.Cursor.{Cursor}
use Rattle.sheet.specs.declared.cursor.Step.{Step}
use Rattle.sheet.specs.Cursor.{Stands, step_at}
use Rattle.sheet.proofs.Cursors.{place}
use Rattle.sheet.proofs.Walks.{next_index}
use Rattle.listing.specs.Text.{Put, Options, Columns}
use Rattle.listing.proofs.Lines.{columns_none, columns_next, columns_most}
use Rattle.listing.proofs.Puts.{put_none, put_on, put_as}

-- the lines of the first k columns are put there
abbrev pub Before : List ℕ → List ℕ → List ℕ → ℕ → ℕ → List ℕ → ℕ → Type 0
Before s totals out at k now next = Put out at (column_lines 1 (take k (columns_of s)) (elements_of 4 totals)) now next

pub before_start : (s totals out : List ℕ) (at : ℕ) → at ≤ length out → Before s totals out at 0 out at
before_start s totals out at h = put_as (put_none out at h) _ (columns_none (elements_of 4 totals))

pub before_end : (s totals out : List ℕ) (at k : ℕ) (now : List ℕ) (next : ℕ) → length (columns_of s) ≤ k
    → Before s totals out at k now next → Put out at (column_lines 1 (columns_of s) (elements_of 4 totals)) now next
before_end s totals out at k now next h p =
    put_as p _ (ap (λ (cs : List Column). column_lines 1 cs (elements_of 4 totals)) (sym (take_all k (columns_of s) h)))

module _ {s : List ℕ} {c : Cursor} (h : Stands s c) (r : Step) (e : r ≡ step_at s c.index) where
  abbrev under : Column
  under = get_or (columns_of s) c.index yes_no

  cursor_published : c.published ≡ published_in (take c.index (columns_of s))
  cursor_published = ap (λ (x : Cursor). x.published) h.here

  -- how many entries the column publishes
  pub step_published : r.next.published ≡ c.published + published_of under
  step_published =
      ap (λ (x : Step). x.next.published) e
      ∙ total_next published (columns_of s) c.index h.within
      ∙ ap (λ (n : ℕ). n + published_of under) (sym cursor_published)

  pub step_options : r.next.published - c.published ≡ published_of under
  step_options = omega (arith, step_published)

  module _ (totals out : List ℕ) (at : ℕ) (now : List ℕ) (next : ℕ) (p : Before s totals out at c.index now next) where
    pub options_fit : Columns at s out totals → Options next c.published (r.next.published - c.published) now totals
    options_fit f =
        let m = columns_most 1 (take c.index (columns_of s)) (elements_of 4 totals) in
        let q = place h in
        record {
          few = omega (arith, step_options, q.published_fit, q.published_most);
          room = omega (arith, step_options, q.published_fit, cursor_published, f.room);
          held = omega (arith, step_options, q.published_fit, f.held);
        }

    pub before_next : (u : List ℕ) (end : ℕ)
        → Put now next (option_lines (c.index + 1) 0 (r.next.published - c.published) (drop c.published (elements_of 4 totals))) u end
        → Before s totals out at r.next.index u end
    before_next u end q =
        put_as (put_on p q) _
        (rw (next_index h r e, step_options, cursor_published) (columns_next c.index (columns_of s) (elements_of 4 totals) h.within))
