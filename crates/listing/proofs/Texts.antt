-- The text by what joining answers. A buffer of 1,024 bytes has room for the totals of any sheet, so that joining's number is
-- that of a buffer that just fits; where there is none, the totals stand in the buffer as elements. Assumes nothing.
use mathlib.Core.Path.{◌≡◌, refl, sym, ap, ◌∙◌}
use mathlib.Core.List.{List, [], ◌∷◌, ◌++◌, append_assoc}
use Prim.Native.Nat.{ℕ, ◌*◌, ◌^◌, ◌≤◌, ◌<◌}
use native.Mathlib.Omega.{arith}
use borrow.Author.Tests.{le-leb, ne_eqb}
use lib.Dec.{lit<}
use lib.ListN.{length, take}
use lib.Seq.{length-take-le}
use Rattle.algebra.proofs.Members.{all_tabulate}
use Rattle.algebra.proofs.Tables.{length_tabulate}
use Rattle.words.specs.Bytes.{elements_of, splice}
use Rattle.words.proofs.Elements.{length_bytes_all, elements_bytes}
use Rattle.words.proofs.Splice.{part_splice, length_splice}
use Rattle.std.specs.Prelude.{Ok, Err}
use Rattle.records.specs.Outcome.{Outcome, ok, refused}
use Rattle.records.specs.Refusals.{number_of}
use Rattle.records.specs.declared.Refusal.{Refusal}
use Rattle.records.proofs.Refusals.{number_nonzero}
use Rattle.records.specs.Answers.{only_if}
use Rattle.records.proofs.Outcome.{or_zero}
use Rattle.rules.specs.Settings.{document01}
use Rattle.rules.specs.Columns.{Column, published_in, list_in, read_sheet, sheet_fault, columns_of, servers_fault}
use Rattle.rules.specs.Joining.{join_refusal, join_count, join_totals, join_bytes}
use Rattle.rules.specs.Recount.{decimal, accepted_text, refusal_text, column_lines}
use Rattle.rules.proofs.Circuits.Limits.{limits}
use Rattle.rules.proofs.Circuits.Refusals.{sheet_read}
use Rattle.field.proofs.Below.{sum_below}
use Rattle.totals_message.specs.Totals.{total_at}
use Rattle.totals_message.proofs.Totals.{join_totals_lem}
use Rattle.joining.specs.Calls.{joined_of, Joins}
use Rattle.joining.specs.declared.Joining.{Joining}
use Rattle.joining.proofs.Faults.{refused_told, done_told}
use Rattle.listing.specs.Text.{joined_text}

-- ---- room for the totals of any sheet
pub published_few : (sheet : List ℕ) → published_in (columns_of sheet) ≤ 256
unfolding list_in published_in
published_few sheet = by (read_sheet sheet) refl
  where
    by : (r : Outcome (List Column)) → read_sheet sheet ≡ r → published_in (list_in r) ≤ 256
    by (ok cs) e = let l = limits sheet cs e in omega (arith, l.published_most, l.entries_most)
    by (refused n) e = omega arith

module _ (servers : ℕ) (sheet : List ℕ) (returns : ℕ) (joined : List ℕ) where
  abbrev number : ℕ → ℕ
  number room = join_refusal document01 servers sheet returns joined room

  pub same_number : (room : ℕ) → 1024 ≤ room → number room ≡ number (4 * published_in (columns_of sheet))
  unfolding join_refusal
  same_number room h =
      let p = published_in (columns_of sheet) in
      let few = published_few sheet in
      rw (le-leb (4 * p) room (omega arith), le-leb (4 * p) (4 * p) (omega arith))

  pub joined_read : (room : ℕ) → number room ≡ 0 → read_sheet sheet ≡ ok (columns_of sheet)
  unfolding join_refusal
  joined_read room e = sheet_read sheet (or_zero (sheet_fault sheet) _ (or_zero (servers_fault servers) _ e).1).0

  -- ---- the totals as elements
  totals_long : length (join_totals document01 servers sheet joined) ≡ published_in (columns_of sheet)
  totals_long = rw (join_totals_lem servers sheet joined) (length_tabulate _ (published_in (columns_of sheet)))

  pub bytes_long : length (join_bytes document01 servers sheet joined) ≡ 4 * published_in (columns_of sheet)
  unfolding join_bytes
  bytes_long = length_bytes_all 4 (join_totals document01 servers sheet joined) ∙ ap (λ (n : ℕ). 4 * n) totals_long

  total_below : (k : ℕ) → total_at servers (published_in (columns_of sheet)) joined k < 256 ^ 4
  unfolding total_at
  total_below k =
      let b : total_at servers (published_in (columns_of sheet)) joined k < 2147483647 = sum_below servers _ in
      omega arith

  pub totals_elements : elements_of 4 (join_bytes document01 servers sheet joined) ≡ join_totals document01 servers sheet joined
  unfolding join_bytes
  totals_elements =
      rw (join_totals_lem servers sheet joined)
      (elements_bytes 4 (lit< tt) _ (all_tabulate _ (published_in (columns_of sheet)) (λ k h. total_below k)))

-- ---- by the answer
-- what the buffer of totals holds, and the text
pub record Counted (servers : ℕ) (sheet : List ℕ) (returns : ℕ) (joined : List ℕ) (d : Joining) (sums : List ℕ) : Type 0 where
  pub is_read : read_sheet sheet ≡ ok (columns_of sheet)
  pub few : published_in (columns_of sheet) ≤ 256
  pub bytes_are : d.written ≡ 4 * published_in (columns_of sheet)
  pub room : d.written ≤ length sums
  pub long : length (take d.written sums) ≡ d.written
  pub text_is : joined_text servers sheet returns joined
      ≡ accepted_text
      ++ (decimal d.accepted ++ (10 ∷ []))
      ++ column_lines 1 (columns_of sheet) (elements_of 4 (take d.written sums))

module _ (servers : ℕ) (sheet : List ℕ) (returns : ℕ) (joined sums : List ℕ) (fits : 1024 ≤ length sums) (after : List ℕ) where
  pub text_refused : (r : Refusal) → Joins servers sheet returns joined sums (Err r) after
      → joined_text servers sheet returns joined ≡ refusal_text (number_of r)
  unfolding joined_of joined_text
  text_refused r j =
      let e : number servers sheet returns joined (4 * published_in (columns_of sheet)) ≡ number_of r
      = sym (refused_told _ _ _ j.answer_is ∙ same_number servers sheet returns joined (length sums) fits) in
      rw (e, ne_eqb (number_of r) 0 (number_nonzero r))

  pub text_counted : (d : Joining) → Joins servers sheet returns joined sums (Ok d) after → Counted servers sheet returns joined d after
  unfolding joined_of joined_text only_if
  text_counted d j =
      let p = published_in (columns_of sheet) in
      let ys = join_bytes document01 servers sheet joined in
      let few = published_few sheet in
      let long = bytes_long servers sheet returns joined in
      let r = done_told (number servers sheet returns joined (length sums)) _ d j.answer_is in
      let none : number servers sheet returns joined (length sums) ≡ 0 = r.0 in
      let none' : number servers sheet returns joined (4 * p) ≡ 0
      = sym (same_number servers sheet returns joined (length sums) fits) ∙ none in
      let w : d.written ≡ 4 * p = ap (λ (x : Joining). x.written) r.1 in
      let n : d.accepted ≡ join_count joined = ap (λ (x : Joining). x.accepted) r.1 in
      let held : after ≡ splice sums 0 ys = j.out_is ∙ rw none in
      let front : take d.written after ≡ ys = rw (held, w) (part_splice sums 0 ys (omega arith) (4 * p) long) in
      let same : length after ≡ length sums = ap length held ∙ length_splice sums 0 ys (omega arith) in
      record {
        is_read = joined_read servers sheet returns joined (length sums) none;
        few = few;
        bytes_are = w;
        room = omega arith;
        long = length-take-le d.written after (omega arith);
        text_is =
            rw (none', front, totals_elements servers sheet returns joined, n)
            (ap (λ (l : List ℕ). l ++ column_lines 1 (columns_of sheet) (join_totals document01 servers sheet joined))
            (append_assoc accepted_text (decimal (join_count joined)) (10 ∷ [])));
      }
