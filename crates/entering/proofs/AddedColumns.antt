-- The loop over the columns that adds the published entries of a share to the totals: the totals below the cursor's published
-- place have the share added, the rest are as they were. Assumes nothing.
use mathlib.Core.Path.{◌≡◌, refl, sym, ap, ap₂, ◌∙◌}
use mathlib.Core.List.{List}
use Prim.Native.Nat.{ℕ, ◌+◌, ◌-◌, ◌*◌, ◌≤◌, ◌<◌}
use native.Mathlib.Nat.{zero-add}
use native.Mathlib.Omega.{arith}
use lib.ListN.{length, get_or, take}
use Rattle.algebra.specs.Lists.{tabulate}
use Rattle.algebra.proofs.Tables.{tabulate_cong}
use Rattle.words.specs.Bytes.{value_of, bytes_of_all, part, splice}
use Rattle.words.proofs.Splice.{part_before}
use Rattle.words.proofs.Below.{all_of_below}
use Rattle.field.specs.Residues.{prime, residues}
use Rattle.field.proofs.Below.{member_below}
use Rattle.rules.specs.Settings.{document01}
use Rattle.rules.specs.Columns.{Column, yes_no, entries_of, published_of, entries_in, published_in, published_from}
use Rattle.rules.specs.Server.{published_shares}
use Rattle.rules.specs.Judging.{share_size}
use Rattle.rules.specs.WaitingList.{place_of, waiting_at}
use Rattle.rules.specs.Table.{header_length, Lent, sheet_in, columns_in, columns_at, opened_in, totals_in, totals_place, added_totals, added_bytes}
use Rattle.rules.proofs.Circuits.Limits.{limits, published_few_of}
use Rattle.rules.proofs.Histories.ClosingBytes.{get_d_map}
use Rattle.columns.specs.Kinds.{bytes_of_kind}
use Rattle.columns.proofs.Sums.{entries, published, total_most}
use Rattle.sheet.specs.declared.cursor.Cursor.{Cursor}
use Rattle.sheet.specs.declared.cursor.Step.{Step}
use Rattle.sheet.specs.Cursor.{begin, Stands, step_at}
use Rattle.sheet.proofs.Cursors.{place}
use Rattle.sheet.specs.Cursor.{Walks}
use Rattle.sheet.proofs.Walks.{walk_start, stands_by_place, walk_end, walk_done, walk_next}
use Rattle.layout.specs.Places.{totals_at}
use Rattle.layout.specs.declared.Table.{Table}
use Rattle.rounds.specs.Waits.{numbers_in}
use Rattle.entering.specs.Totals.{word_at, words_added, Addable, Adds, total_with, with_published}
use Rattle.entering.proofs.AddedWords.{length_run, run_none, run_more, run_behind, length_run_put}
use Rattle.entering.proofs.PublishedEntries.{published_at}
use Rattle.entering.proofs.PublishedSums.{says, total_word, total_below, sheet_reads, sheet_long}

-- t is T with the published entries of the share xs added, as far as the cursor is
pub record Added (T : List ℕ) (k : Table) (xs : List ℕ) (t : List ℕ) (c : Cursor) : Type 0 where
  pub walks : Walks (sheet_in document01 T) c
  pub filled : t ≡ splice T (totals_at k.sheet) (bytes_of_all 4 (tabulate (total_with T xs) c.published))
  pub same : length t ≡ length T
  pub few : c.published ≤ k.published
  pub entries_few : c.entry ≤ k.entries

-- the share of published entry i of column j
share_at_lem : (T : List ℕ) (k : Table) (xs : List ℕ) → Adds T k xs → (j i : ℕ) → j < length (columns_in document01 T)
    → i < published_of (get_or (columns_in document01 T) j yes_no)
    → get_or (published_shares document01 (opened_in document01 T) xs) (published_in (take j (columns_in document01 T)) + i) 0
    ≡ get_or xs (entries_in (take j (columns_in document01 T)) + i) 0
unfolding published_shares
share_at_lem T k xs v j i h l =
    let cs = columns_in document01 T in
    let m = limits (sheet_in document01 T) cs (sheet_reads T k xs v) in
    let most = total_most published cs j h in
    get_d_map (λ e. get_or xs e 0) (published_from 0 cs) (published_in (take j cs) + i) (omega (arith, m.published_count, most))
    ∙ ap (λ e. get_or xs e 0) (published_at cs 0 j i h l ∙ zero-add _)

pub added_start : (T : List ℕ) (k : Table) (xs : List ℕ) (c : Cursor) → c ≡ begin → Added T k xs T c
added_start T k xs c e =
    let p : c.published ≡ 0 = ap (λ (u : Cursor). u.published) e ∙ published.nothing in
    let n : c.entry ≡ 0 = ap (λ (u : Cursor). u.entry) e ∙ entries.nothing in
    record {
      walks = walk_start (sheet_in document01 T) c e;
      filled = rw p (run_none (total_with T xs) T (totals_at k.sheet));
      same = refl;
      few = omega arith;
      entries_few = omega arith;
    }

-- ---- a turn
module _ (T : List ℕ) (k : Table) (xs : List ℕ) (v : Adds T k xs) (t : List ℕ) (c : Cursor) (a : Added T k xs t c) where
  abbrev start : ℕ
  start = totals_at k.sheet

  run_fits : start + 4 * c.published ≤ length T
  run_fits = omega (arith, v.long, a.few)

  -- the sheet, as the code cuts it out
  sheet_cut_lem : part header_length k.sheet t ≡ sheet_in document01 T
  sheet_cut_lem =
      let run = bytes_of_all 4 (tabulate (total_with T xs) c.published) in
      ap (λ (l : List ℕ). part header_length k.sheet l) a.filled
      ∙ part_before T start run (omega (arith, run_fits, length_run (total_with T xs) c.published)) header_length k.sheet (omega arith)
      ∙ ap (λ n. part header_length n T) (says T k v.headed.says).sheet_is

  module _ (h : c.at < k.sheet) where
    stands_here : Stands (sheet_in document01 T) c
    stands_here =
        stands_by_place (sheet_in document01 T) c (sheet_reads T k xs v) a.walks (omega (arith, sheet_long T k xs v))

    pub added_stands : Stands (part header_length k.sheet t) c
    added_stands = rw sheet_cut_lem stands_here

    module _ (step : Step) (e : step ≡ step_at (part header_length k.sheet t) c.index) where
      abbrev column : Column
      column = get_or (columns_in document01 T) c.index yes_no

      step_is : step ≡ step_at (sheet_in document01 T) c.index
      step_is = rw sheet_cut_lem at e

      pub next_published : step.next.published ≡ c.published + published_of column
      next_published =
          ap (λ (u : Step). u.next.published) step_is ∙ ap (λ (u : Cursor). u.published) (place stands_here).next_is

      next_entry : step.next.entry ≡ c.entry + entries_of column
      next_entry = ap (λ (u : Step). u.next.entry) step_is ∙ ap (λ (u : Cursor). u.entry) (place stands_here).next_is

      pub added_less : k.sheet - step.next.at < k.sheet - c.at
      added_less =
          let p = place stands_here in
          let n : step.next.at ≡ c.at + bytes_of_kind (get_or (sheet_in document01 T) c.at 0)
          = ap (λ (u : Step). u.next.at) step_is ∙ ap (λ (u : Cursor). u.at) p.next_is in
          omega (arith, n, p.size_some, p.size_fits, sheet_long T k xs v, h)

      published_few : c.published + published_of column ≤ k.published
      published_few = omega (arith, (place stands_here).published_fit, (says T k v.headed.says).published_is)

      entries_fit : c.entry + entries_of column ≤ k.entries
      entries_fit = omega (arith, (place stands_here).entries_fit, (says T k v.headed.says).entries_is)

      -- ---- the words of the column
      module _ (i : ℕ) (l : i < published_of column) where
        to_word : word_at t (start + 4 * c.published + 4 * i) ≡ get_or (totals_in document01 T) (c.published + i) 0
        to_word =
            let same : start + 4 * c.published + 4 * i ≡ start + 4 * (c.published + i) = omega arith in
            ap (λ (x : List ℕ). word_at x (start + 4 * c.published + 4 * i)) a.filled
            ∙ ap value_of (run_behind (total_with T xs) T start c.published (start + 4 * c.published + 4 * i) 4 run_fits (omega arith))
            ∙ ap (word_at T) same
            ∙ total_word T k xs v (c.published + i) (omega (arith, published_few, l))

        sum_is : words_added t (start + 4 * c.published) xs c.entry i ≡ total_with T xs (c.published + i)
        unfolding words_added total_with
        sum_is =
            let p : c.published ≡ published_in (take c.index (columns_in document01 T))
            = ap (λ (u : Cursor). u.published) a.walks.here in
            let n : c.entry ≡ entries_in (take c.index (columns_in document01 T)) = ap (λ (u : Cursor). u.entry) a.walks.here in
            let w = share_at_lem T k xs v c.index i stands_here.within l in
            ap₂ residues.◌⊕◌ to_word (rw (← p, ← n) at (sym w))

      abbrev count : ℕ
      count = step.next.published - c.published

      count_is : count ≡ published_of column
      count_is = omega (arith, next_published)

      pub added_addable : Addable t (start + 4 * c.published) xs c.entry count
      added_addable =
          let few = published_few_of column in
          record {
            fits = omega (arith, count_is, published_few, v.long, a.same);
            within = omega (arith, count_is, few, entries_fit, v.share_long);
            to_below = λ i l. rw (to_word i (omega (arith, l, count_is))) (total_below T k xs v (c.published + i));
            from_below = λ i l. member_below xs (c.entry + i) (all_of_below prime xs v.share_below);
          }

      pub added_turn : (t' : List ℕ)
          → t' ≡ splice t (start + 4 * c.published)
          (bytes_of_all 4 (tabulate (words_added t (start + 4 * c.published) xs c.entry) count))
          → Added T k xs t' step.next
      added_turn t' q =
          let f = total_with T xs in
          let m = c.published in
          let g : tabulate (words_added t (start + 4 * m) xs c.entry) count ≡ tabulate (λ i. f (m + i)) count
          = tabulate_cong _ _ count (λ i l. sum_is i (omega (arith, l, count_is))) in
          let n : m + count ≡ step.next.published = omega (arith, next_published) in
          let filled : t' ≡ splice T start (bytes_of_all 4 (tabulate f step.next.published))
          = q
          ∙ ap₂ (λ (x y : List ℕ). splice x (start + 4 * m) (bytes_of_all 4 y)) a.filled g
          ∙ run_more f T start m count run_fits
          ∙ ap (λ j. splice T start (bytes_of_all 4 (tabulate f j))) n in
          record {
            walks = walk_next stands_here step step_is;
            filled = filled;
            same =
                ap length filled
                ∙ length_run_put f T start step.next.published (omega (arith, next_published, published_few, v.long));
            few = omega (arith, next_published, published_few);
            entries_few = omega (arith, next_entry, entries_fit);
          }

  -- ---- the end
  pub added_all : k.sheet ≤ c.at → t ≡ with_published T xs
  unfolding with_published totals_place
  added_all h =
      let S = sheet_in document01 T in
      let r = sheet_reads T k xs v in
      let end = walk_end S c r a.walks (omega (arith, sheet_long T k xs v)) in
      let p : c.published ≡ published_in (columns_in document01 T)
      = ap (λ (u : Cursor). u.published) (walk_done S c r a.walks (omega (arith, end))) in
      a.filled
      ∙ ap₂ (λ n j. splice T (header_length + n) (bytes_of_all 4 (tabulate (total_with T xs) j))) (says T k v.headed.says).sheet_is p

-- ---- of the return that waits under an id it is rules' table
pub added_is : (T : Lent) (id j : ℕ) → j ≡ place_of id T.slots
    → with_published T.bytes (take (share_size (columns_at document01 T)) (numbers_in T j)) ≡ added_bytes document01 T id
unfolding with_published total_with added_bytes added_totals waiting_at
added_is T id j e = rw e
