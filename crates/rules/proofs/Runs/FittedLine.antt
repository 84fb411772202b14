-- The line of a column of kind 21 in a pool whose entered returns keep their form. Their added-up entries are then encodings of legal
-- values, so each second and fourth entry is the product that it is tested to be, and the four joined totals are the sums over the
-- points; the rest are laws of such sums. Assumes nothing.
use mathlib.Core.Path.{◌≡◌, sym, ap, ◌∙◌}
use mathlib.Core.Bool.{Bool, true, not}
use mathlib.Core.List.{List, ◌∷◌, ◌++◌, map}
use Prim.Native.Nat.{ℕ, ◌+◌, ◌*◌, ◌/◌, ◌%◌, ◌^◌, ◌<◌}
use native.Mathlib.Nat.{mod-eq_of_lt, mod-lt, div-lt_iff_lt-mul, one-le-pow, zero-add, add-zero}
use native.Mathlib.Omega.{arith}
use borrow.Author.Tests.{le-leb}
use lib.ListN.{length, get_or, length-map}
use Rattle.algebra.specs.Lists.{In, sum_over}
use Rattle.algebra.specs.Modulo.{modulo}
use Rattle.algebra.proofs.Rearrangement.{sum_cong, sum_map}
use Rattle.records.specs.Outcome.{or_else}
use Rattle.records.proofs.Outcome.{or_none, or_zero}
use Rattle.rules.specs.Settings.{Setting, Facts, document01}
use Rattle.rules.specs.Columns.{Column, point, entries_of, published_of, values_of, entries_in, published_in, published_from, check}
use Rattle.rules.specs.Columns.{sheet_fault, servers_fault, returns_fault, totals_fault}
use Rattle.rules.specs.Values.{point_entry, encoded, legal_values, Encodes, encoding}
use Rattle.rules.specs.Judging.{added_up}
use Rattle.rules.specs.Joining.{joined_fault, join_refusal, join_count, join_totals}
use Rattle.rules.specs.Pools.{Pool, columns, added_entry, KeepsForm}
use Rattle.rules.specs.WholeRun.{closings, Closed}
use Rattle.rules.specs.Line.{Sums, Point, columns_before, names_point, is_zero, determinant, line_sums, line_refusal, sums_of, point_in}
use Rattle.rules.specs.Line.{Fitted, LineRun}
use Rattle.rules.proofs.Computed.Facts.{document01_facts}
use Rattle.rules.proofs.Circuits.Legal.{sheet_tests_say_legal}
use Rattle.rules.proofs.Circuits.Encoding.{entry_below_modulus}
use Rattle.rules.proofs.Circuits.ColumnPlaces.{value_behind, entry_behind, entry_within, published_behind, published_within}
use Rattle.rules.proofs.Histories.OwnMessages.{sum_below}
use Rattle.rules.proofs.Histories.PoolOpened.{is_read, limited}
use Rattle.rules.proofs.Histories.ClosingBytes.{get_d_map}
use Rattle.rules.proofs.Lines.Named.{Named, named}
use Rattle.rules.proofs.Lines.Spread.{zero_when, not_negative}
use Rattle.rules.proofs.Lines.Solution.{solves}

-- a check that passes
or_pass : {a b : ℕ} → a ≡ 0 → or_else a b ≡ b
or_pass {a} {b} e = ap (λ (k : ℕ). or_else k b) e ∙ or_none b

-- ---- the entries of one column in a return that keeps its form
module _ (σ : Setting) (facts : Facts σ) (𝓟 : Pool σ) (id : ℕ) (valid : KeepsForm σ 𝓟 id) (before after : List Column) (c : Column)
    (is : columns σ 𝓟 ≡ before ++ (c ∷ after)) where
  code : Encodes (modulo σ.modulus) (columns σ 𝓟) (added_entry σ 𝓟 id)
  unfolding added_up
  code =
      (sheet_tests_say_legal σ facts (columns σ 𝓟) (added_entry σ 𝓟 id) (λ e. sum_below σ facts 𝓟.servers _)
      𝓟.sheet (is_read σ 𝓟)).0 valid

  abbrev chosen : ℕ
  chosen = get_or code.values (length before) 0

  legal_here : legal_values (before ++ (c ∷ after)) code.values ≡ true
  legal_here = rw (← is) code.legal

  chosen_legal : chosen < values_of c
  chosen_legal = value_behind c after before code.values legal_here

  entry_is : (k : ℕ) → k < entries_of c → added_entry σ 𝓟 id (entries_in before + k) ≡ encoded c chosen k
  entry_is k l =
      let within : entries_in before + k < entries_in (columns σ 𝓟) = rw is (entry_within c after k l before) in
      let below = entry_below_modulus σ facts (columns σ 𝓟) code.values (limited σ 𝓟).in_limits code.legal in
      code.entries_are (entries_in before + k) within
      ∙ mod-eq_of_lt (below (entries_in before + k))
      ∙ ap (λ (v : List Column). get_or (encoding v code.values) (entries_in before + k) 0) is
      ∙ entry_behind c after k l before code.values legal_here

-- ---- a pool whose entered returns keep their form, and a number that names a column of kind 21
module _ (σ : Setting) (facts : Facts σ) (𝓟 : Pool σ) (closed : Closed σ 𝓟) (keeps : (id : ℕ) → In id closed.ids → KeepsForm σ 𝓟 id)
    (column : ℕ) (names : names_point column (columns σ 𝓟) ≡ true) where
  abbrev before : List Column
  before = columns_before column (columns σ 𝓟)

  abbrev found : Named column (columns σ 𝓟)
  found = named column (columns σ 𝓟) names

  abbrev at : ℕ → Point
  at = point_in σ 𝓟 column

  -- the four entries are x, x × x, y, x × y, and both numbers are below 2^b
  module _ (id : ℕ) (h : In id closed.ids) where
    abbrev value : ℕ
    value = chosen σ facts 𝓟 id (keeps id h) before found.after (point found.bits) found.splits

    entry_read : (k : ℕ) → k < 4
        → added_entry σ 𝓟 id (entries_in before + k) ≡ point_entry found.bits (value % 2 ^ found.bits) (value / 2 ^ found.bits) k
    unfolding encoded entries_of
    entry_read k l = entry_is σ facts 𝓟 id (keeps id h) before found.after (point found.bits) found.splits k (omega arith)

    x_is : (at id).x ≡ value % 2 ^ found.bits
    unfolding point_in point_entry
    x_is = ap (added_entry σ 𝓟 id) (sym (add-zero (entries_in before))) ∙ entry_read 0 (omega arith)

    y_is : (at id).y ≡ value / 2 ^ found.bits
    unfolding point_in point_entry
    y_is = entry_read 2 (omega arith)

    entry_of : (k : ℕ) → k < 4 → added_entry σ 𝓟 id (entries_in before + k) ≡ point_entry found.bits (at id).x (at id).y k
    entry_of k l = rw (x_is, y_is) (entry_read k l)

    both_small : ((at id).x < 2 ^ found.bits) × ((at id).y < 2 ^ found.bits)
    unfolding values_of
    both_small =
        let some : 0 < 2 ^ found.bits = one-le-pow found.bits 2 (omega arith) in
        rw (x_is, y_is) (
          mod-lt value some,
          (div-lt_iff_lt-mul some).1
              (chosen_legal σ facts 𝓟 id (keeps id h) before found.after (point found.bits) found.splits),
        )

  -- the four totals
  abbrev totals : List ℕ
  totals = join_totals σ 𝓟.servers 𝓟.sheet (closings σ 𝓟)

  total_at_lem : (k : ℕ) → k < 4
      → get_or totals (published_in before + k) 0 ≡ sum_over (λ id. added_entry σ 𝓟 id (entries_in before + k)) closed.ids
  unfolding published_of
  total_at_lem k l =
      let cs = columns σ 𝓟 in
      let rest = found.after in
      let c = point found.bits in
      let inside : published_in before + k < published_in (before ++ (c ∷ rest)) = published_within c rest k l before in
      let all : published_in (before ++ (c ∷ rest)) ≡ published_in cs = ap published_in (sym found.splits) in
      let place : get_or (published_from 0 cs) (published_in before + k) 0 ≡ entries_in before + k =
      ap (λ (v : List Column). get_or (published_from 0 v) (published_in before + k) 0) found.splits
      ∙ published_behind c rest k l before 0 ∙ zero-add (entries_in before + k) in
      ap (λ (v : List ℕ). get_or v (published_in before + k) 0) (closed.whole keeps)
      ∙ get_d_map _ (published_from 0 cs) (published_in before + k) (omega (arith, (limited σ 𝓟).published_count))
      ∙ ap (λ (e : ℕ). sum_over (λ id. added_entry σ 𝓟 id e) closed.ids) place

  total_of : (k : ℕ) → k < 4
      → get_or totals (published_in before + k) 0 ≡ sum_over (λ p. point_entry found.bits p.x p.y k) (map at closed.ids)
  total_of k l =
      total_at_lem k l ∙ sum_cong _ _ closed.ids (λ id h. entry_of id h k l)
      ∙ sym (sum_map (λ p. point_entry found.bits p.x p.y k) at closed.ids)

  abbrev sums : Sums
  sums = line_sums σ 𝓟.servers 𝓟.sheet (closings σ 𝓟) column

  sums_are : sums ≡ sums_of (map at closed.ids)
  unfolding line_sums sums_of point_entry
  sums_are =
      let n-is : join_count (closings σ 𝓟) ≡ length (map at closed.ids) = closed.count ∙ sym (length-map closed.ids at) in
      λ i. record {
        n = n-is i;
        x = total_of 0 (omega arith) i;
        xx = total_of 1 (omega arith) i;
        y = total_of 2 (omega arith) i;
        xy = total_of 3 (omega arith) i;
      }

  refused_only : line_refusal σ 𝓟.servers 𝓟.sheet 𝓟.returns (closings σ 𝓟) column ≡ check (not (is_zero (determinant sums))) 18
  unfolding line_refusal join_refusal
  refused_only =
      let cs = columns σ 𝓟 in
      let room : ℕ = σ.width * published_in cs in
      let none : join_refusal σ 𝓟.servers 𝓟.sheet 𝓟.returns (closings σ 𝓟) room ≡ 0 =
      closed.joins room ∙ ap (λ (b : Bool). check b 14) (le-leb room room (omega arith)) in
      let c1 = or_zero (servers_fault 𝓟.servers) _ none in
      let c2 = or_zero (sheet_fault 𝓟.sheet) _ c1.1 in
      let c3 = or_zero (returns_fault 𝓟.returns) _ c2.1 in
      let c4 = or_zero (totals_fault σ 𝓟.returns cs) _ c3.1 in
      let c5 = or_zero (joined_fault σ 𝓟.servers cs 𝓟.returns (closings σ 𝓟)) _ c4.1 in
      or_pass c1.0 ∙ or_pass c2.0 ∙ or_pass c3.0 ∙ or_pass c4.0
      ∙ or_pass (ap (λ (b : Bool). check b 2) names) ∙ or_pass c5.0

  fitted : Fitted σ 𝓟 column closed.ids
  fitted = record {
    bits = found.bits;
    named = found.there;
    sums_are = sums_are;
    small = both_small;
    zero_when = rw (sums_are, ← length-map closed.ids at) (zero_when (map at closed.ids));
    not_negative = rw sums_are (not_negative (map at closed.ids));
    solves = solves sums;
    refused_only = refused_only;
  }

pub line_run : (σ : Setting) → Facts σ → LineRun σ
line_run = fitted

-- at the setting of document 01
pub document01_line_run : LineRun document01
document01_line_run = line_run document01 document01_facts
