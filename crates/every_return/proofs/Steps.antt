-- One turn of a walk over the columns: how many values the column under the cursor has, and what it does to the count of the
-- lists before and behind it. Assumes nothing.
use mathlib.Core.Path.{◌≡◌, sym, ap, ap₂, ◌∙◌}
use mathlib.Core.List.{List}
use Prim.Native.Nat.{ℕ, suc, ◌*◌, ◌/◌, ◌≤◌, ◌<◌}
use native.Mathlib.Nat.{mul-div_right}
use native.Mathlib.Numerals.{add-one}
use lib.ListN.{get_or, take, drop}
use Rattle.algebra.specs.Lists.{All}
use Rattle.algebra.proofs.Members.{all_get_d}
use Rattle.rules.specs.Columns.{yes_no, values_of, columns_of}
use Rattle.rules.specs.EveryReturn.{lists_in}
use Rattle.rules.proofs.Circuits.Limits.{InLimits, limits}
use Rattle.columns.specs.Kinds.{from_code}
use Rattle.sheet.specs.declared.cursor.Cursor.{Cursor}
use Rattle.sheet.specs.declared.cursor.Step.{Step}
use Rattle.sheet.specs.Cursor.{Stands, step_at}
use Rattle.sheet.proofs.Walks.{next_index, column_seen}
use Rattle.every_return.proofs.Products.{values_pos, lists_from, lists_upto, lists_most, from_pos}

module _
    {s : List ℕ} {c : Cursor} (h : Stands s c) (r : Step) (e : r ≡ step_at s c.index)
    (values : ℕ) (values-are : values ≡ values_of (from_code r.column))
  where
    limited : All InLimits (columns_of s)
    limited = (limits s (columns_of s) h.is_read).in_limits

    pub values_here : values ≡ values_of (get_or (columns_of s) c.index yes_no)
    values_here = values-are ∙ ap values_of (column_seen h r e)

    pub next_is : r.next.index ≡ suc c.index
    next_is = next_index h r e ∙ add-one c.index

    pub some_values : 0 < values
    some_values = rw values_here (values_pos _ (all_get_d yes_no limited c.index h.within))

    -- the lists of the columns up to it
    module _ (total : ℕ) (t : total ≡ lists_in (take c.index (columns_of s))) where
      pub total_next : total * values ≡ lists_in (take r.next.index (columns_of s))
      total_next =
          ap₂ ◌*◌ t values_here
          ∙ sym (lists_upto (columns_of s) c.index h.within)
          ∙ ap (λ (k : ℕ). lists_in (take k (columns_of s))) (sym next_is)

      pub total_most : total * values ≤ lists_in (columns_of s)
      total_most = rw total_next (lists_most (columns_of s) r.next.index limited)

    -- the lists of the columns behind it
    module _ (behind : ℕ) (t : behind ≡ lists_in (drop c.index (columns_of s))) where
      pub behind_next : behind / values ≡ lists_in (drop (suc c.index) (columns_of s))
      behind_next =
          rw (t, lists_from (columns_of s) c.index h.within, ← values_here)
          (mul-div_right (lists_in (drop (suc c.index) (columns_of s))) some_values)

      pub some_behind : 0 < behind / values
      some_behind = rw behind_next (from_pos (columns_of s) (suc c.index) limited)
