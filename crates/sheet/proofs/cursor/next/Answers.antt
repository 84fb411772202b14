-- `sheet::cursor::next` meets its contract. The bytes under the cursor are those of its column (`place`), so what they tell
-- is the column, and the counts behind it are those before it and its own. Assumes nothing.
use mathlib.Core.Path.{◌≡◌, refl, sym, ap, ap₂, ◌∙◌}
use mathlib.Core.List.{List, [], ◌∷◌}
use mathlib.Core.Option.{none}
use Prim.Native.Nat.{ℕ, ◌+◌, ◌-◌, ◌≤◌}
use native.Mathlib.Omega.{arith}
use lib.ListN.{length, get_or}
use borrow.Author.Rules.{rules}
use Rattle.std.specs.Prelude.{Option, Some, None, Result, Ok, Err, IsSome, IsOk, MatchOption}
use Rattle.words.specs.Bytes.{part}
use Rattle.words.proofs.Splice.{length_part}
use Rattle.rules.specs.Columns.{yes_no, column_body, column_of, columns_of}
use Rattle.rules.proofs.Circuits.Limits.{InLimits}
use Rattle.records.specs.Outcome.{ok}
use Rattle.records.specs.Refusals.{outcome_of}
use Rattle.records.specs.declared.Refusal.{Refusal}
use Rattle.columns.specs.declared.Counts.{Counts}
use Rattle.columns.specs.declared.Column as code
use Rattle.columns.specs.Counting.{counts_of}
use Rattle.columns.specs.declared.Kind.{Kind}
use Rattle.columns.specs.Kinds.{code_of, bytes_of_kind, to_code, from_code, judged_of}
use Rattle.columns.proofs.ColumnBytes.{from_to_code}
use Rattle.columns.proofs.Sums.{entries, published, gates, total_one}
use Rattle.sheet.specs.declared.cursor.Cursor.{Cursor}
use Rattle.sheet.specs.declared.cursor.Step.{Step}
use Rattle.sheet.specs.Cursor.{step_at}
use Rattle.sheet.proofs.Cursors.{Place, place}
use Rattle.sheet.proofs.cursor.next.Goals as goal
use Rattle.sheet.proofs.cursor.next.Goals.{After-bytes, After-counts_of-counts}

-- the counts behind a column stay small
record Sums (c : Cursor) (counts : Counts) : Type 0 where
  entry_sum : c.entry + counts.entries ≤ 256
  published_sum : c.published + counts.published ≤ 256
  gates_sum : c.gates + counts.gates ≤ 256

module _
    (s : List ℕ) (c : Cursor) (p : Place s c) (k : Kind) (byte_is : code_of k ≡ get_or s c.at 0)
    (size : ℕ) (size_is : size ≡ bytes_of_kind (code_of k))
  where
    size_here : size ≡ bytes_of_kind (get_or s c.at 0)
    size_here = size_is ∙ ap bytes_of_kind byte_is

    abbrev body : List ℕ
    body = part (c.at + 1) (c.at + size - (c.at + 1)) s

    body_long : bytes_of_kind (code_of k) ≡ length body + 1
    body_long =
        let l = length_part (c.at + 1) (c.at + size - (c.at + 1)) s (omega (arith, size_here)) in omega (arith, size_here)

    column_here : column_of (code_of k) body ≡ ok (get_or (columns_of s) c.index yes_no)
    column_here =
        let e : c.at + size - (c.at + 1) ≡ bytes_of_kind (get_or s c.at 0) - 1 = omega (arith, size_here) in
        ap₂ column_of byte_is (ap (λ (n : ℕ). part (c.at + 1) n s) e) ∙ p.column_is

    -- the column is taken
    told : (r : Result code.Column Refusal) → outcome_of r ≡ judged_of (column_of (code_of k) body) → IsOk r
    told (Ok a) e = search rules
    told (Err f) e = let q = rw column_here at e in let z : ⊥ = cc in absurd z

    module _ (column : code.Column) (column_is : ok column ≡ judged_of (column_of (code_of k) body)) where
      seen : column ≡ to_code (get_or (columns_of s) c.index yes_no)
      seen = let q = rw column_here at column_is in cc

      seen_back : from_code column ≡ get_or (columns_of s) c.index yes_no
      seen_back = ap from_code seen ∙ from_to_code (get_or (columns_of s) c.index yes_no)

      limited : InLimits (from_code column)
      limited = rw seen_back p.in_limits

      module _ (counts : Counts) (counts_are : counts ≡ counts_of (from_code column ∷ [])) where
        counted : counts ≡ counts_of (get_or (columns_of s) c.index yes_no ∷ [])
        counted = counts_are ∙ rw seen_back

        sums : Sums c counts
        sums =
            let a = get_or (columns_of s) c.index yes_no in
            rw counted
            (record {
              entry_sum = omega (arith, total_one entries a);
              published_sum = omega (arith, total_one published a);
              gates_sum = omega (arith, total_one gates a);
            })

        finish : ◌≡◌ {A = Step}
            (record {
              column = column;
              next =
                  record {
                    index = c.index + 1;
                    at = c.at + size;
                    entry = c.entry + counts.entries;
                    published = c.published + counts.published;
                    gates = c.gates + counts.gates;
                  };
            })
            (step_at s c.index)
        finish =
            let a = get_or (columns_of s) c.index yes_no in
            ap₂ (λ (x : code.Column) (y : Cursor). record { column = x; next = y })
            seen
            (rw (size_here, counted, total_one entries a, total_one published a, total_one gates a) (sym p.next_is))

-- the byte under the cursor is a kind
some_kind : (o : Option Kind) (b : ℕ) → MatchOption o (column_body b ≡ none) (λ k. code_of k ≡ b) → 1 ≤ bytes_of_kind b → IsSome o
unfolding bytes_of_kind
some_kind (Some k) b e l = search rules
some_kind None b e l = let z : bytes_of_kind b ≡ 0 = rw e refl in absurd (omega arith)

-- what is known of the bytes under the cursor, and then of the column that they tell
bytes : (c : After-bytes) → c.bytes.result ≡ bytes_of_kind (get_or c.args.s.now c.args.c.at 0)
bytes c =
    size_here c.args.s.now c.args.c (place c.requires) c.unwrap-kind.result (rw c.unwrap-kind.ensures at c.of.ensures)
    c.bytes.result c.bytes.ensures

pub bounds-s-at : goal.bounds-s-at
bounds-s-at c = let p = place c.requires in omega arith

pub unwrap-kind-requires : goal.unwrap-kind-requires
unwrap-kind-requires c = some_kind _ _ c.of.ensures (place c.requires).size_some

pub overflow_add-start : goal.overflow_add-start
overflow_add-start c = let p = place c.requires in omega arith

pub overflow_add-end : goal.overflow_add-end
overflow_add-end c = let p = place c.requires in let b = bytes (goal.at.overflow_add-end c).After-bytes in omega arith

pub slice_bounds-column_of-count : goal.slice_bounds-column_of-count
slice_bounds-column_of-count c =
    let p = place c.requires in let b = bytes (goal.at.slice_bounds-column_of-count c).After-bytes in omega arith

pub slice_bounds-column_of-start : goal.slice_bounds-column_of-start
slice_bounds-column_of-start c =
    let p = place c.requires in let b = bytes (goal.at.slice_bounds-column_of-start c).After-bytes in omega arith

pub slice_bounds-column_of-end : goal.slice_bounds-column_of-end
slice_bounds-column_of-end c =
    let p = place c.requires in let b = bytes (goal.at.slice_bounds-column_of-end c).After-bytes in omega arith

pub column_of-requires : goal.column_of-requires
column_of-requires c =
    body_long c.args.s.now c.args.c (place c.requires) c.unwrap-kind.result (rw c.unwrap-kind.ensures at c.of.ensures)
    c.bytes.result c.bytes.ensures

pub unwrap-column-requires : goal.unwrap-column-requires
unwrap-column-requires c =
    told c.args.s.now c.args.c (place c.requires) c.unwrap-kind.result (rw c.unwrap-kind.ensures at c.of.ensures)
    c.bytes.result c.bytes.ensures c.column_of.result c.column_of.ensures

pub counts_of-counts-requires : goal.counts_of-counts-requires
counts_of-counts-requires c =
    limited c.args.s.now c.args.c (place c.requires) c.unwrap-kind.result (rw c.unwrap-kind.ensures at c.of.ensures)
    c.bytes.result c.bytes.ensures c.unwrap-column.result (rw c.unwrap-column.ensures at c.column_of.ensures)

small : (c : After-counts_of-counts) → Sums c.args.c c.counts_of-counts.result
small c =
    sums c.args.s.now c.args.c (place c.requires) c.unwrap-kind.result (rw c.unwrap-kind.ensures at c.of.ensures)
    c.bytes.result c.bytes.ensures c.unwrap-column.result (rw c.unwrap-column.ensures at c.column_of.ensures)
    c.counts_of-counts.result c.counts_of-counts.ensures

pub overflow_add-next : goal.overflow_add-next
overflow_add-next c = let p = place c.requires in omega arith

pub overflow_add-next-2 : goal.overflow_add-next-2
overflow_add-next-2 c = let q = small (goal.at.overflow_add-next-2 c).After-counts_of-counts in omega arith

pub overflow_add-next-3 : goal.overflow_add-next-3
overflow_add-next-3 c = let q = small (goal.at.overflow_add-next-3 c).After-counts_of-counts in omega arith

pub overflow_add-next-4 : goal.overflow_add-next-4
overflow_add-next-4 c = let q = small (goal.at.overflow_add-next-4 c).After-counts_of-counts in omega arith

pub returns : goal.returns
returns c =
    finish c.args.s.now c.args.c (place c.requires) c.unwrap-kind.result (rw c.unwrap-kind.ensures at c.of.ensures)
    c.bytes.result c.bytes.ensures c.unwrap-column.result (rw c.unwrap-column.ensures at c.column_of.ensures)
    c.counts_of-counts.result c.counts_of-counts.ensures
