-- What the call answers by what the judge says: messages that are placed have four totals from the place on, which are rules' sums and
-- so small that their products fit; then D decides. Assumes nothing.
use mathlib.Core.Path.{◌≡◌, refl, sym, ap, ◌∙◌}
use mathlib.Core.Bool.{Bool, true, false, not, cond}
use mathlib.Core.List.{List, ◌∷◌, ◌++◌}
use Prim.Native.Nat.{ℕ, ◌+◌, ◌*◌, ◌^◌, ◌≤◌, ◌<◌}
use native.Mathlib.Nat.{mul-le-mul_left, add-zero}
use native.Mathlib.Omega.{arith}
use lib.Dec.{eqb}
use lib.ListN.{length, get_or}
use Rattle.algebra.proofs.Tables.{get_d_tabulate}
use Rattle.records.specs.Outcome.{ok, refused, or_else}
use Rattle.records.specs.Refusals.{number_of}
use Rattle.records.specs.declared.Refusal.{Refusal}
use Rattle.records.proofs.Outcome.{or_none, or_assoc, or_zero}
use Rattle.records.proofs.Refusals.{first_counts}
use Rattle.rules.specs.Settings.{document01}
use Rattle.rules.specs.Columns.{Column, point, published_of, published_in, columns_of, check}
use Rattle.rules.specs.Joining.{accepted_count, join_count, join_totals}
use Rattle.rules.specs.Line.{Sums, determinant, is_zero, names_point, columns_before, line_sums, line_refusal, Narrow}
use Rattle.rules.proofs.Circuits.ColumnPlaces.{published_within}
use Rattle.rules.proofs.Lines.Named.{named}
use Rattle.rules.proofs.Lines.Bounds.{narrow_at_p}
use Rattle.field.proofs.Below.{sum_below}
use Rattle.steps.proofs.Parts.{check_holds}
use Rattle.totals_message.specs.Totals.{totals_bytes, total_at, joined_fault_at, SummableTotals}
use Rattle.totals_message.proofs.Totals.{joined_fault_lem, join_totals_lem, totals_summable, count_within}
use Rattle.joining.specs.Calls.{pool_fault}
use Rattle.joining.proofs.Faults.{refused_by, refused_told, done_told}
use Rattle.joining.proofs.Pooling.{Poolable, passed}
use Rattle.line.specs.declared.Place.{Place}
use Rattle.line.specs.Numbers.{sums_in, line_of, fitting_of}
use Rattle.line.specs.Calls.{Takeable, totals_from, line_fault, place_of, placed, fit_of}

-- ---- totals that are placed
-- a total is an element
total_below : (servers published : ℕ) (joined : List ℕ) (k : ℕ) → total_at servers published joined k < 2147483647
unfolding total_at
total_below servers published joined k = sum_below servers _

-- a column of two numbers has four totals
four_within : (cs : List Column) (column : ℕ) → names_point column cs ≡ true
    → published_in (columns_before column cs) + 4 ≤ published_in cs
unfolding published_of
four_within cs column h =
    let d = named column cs h in
    let c = point d.bits in
    let last : published_in (columns_before column cs) + 3 < published_in (columns_before column cs ++ (c ∷ d.after)) =
    published_within c d.after 3 (omega arith) (columns_before column cs) in
    let all : published_in (columns_before column cs ++ (c ∷ d.after)) ≡ published_in cs = ap published_in (sym d.splits) in
    omega arith

module _ (servers : ℕ) (sheet : List ℕ) (returns : ℕ) (joined : List ℕ) (column : ℕ) where
  abbrev cs : List Column
  cs = columns_of sheet

  abbrev at : Place
  at = place_of sheet column

  abbrev sums : Sums
  sums = line_sums document01 servers sheet joined column

  refusal_is : line_refusal document01 servers sheet returns joined column
      ≡ or_else (line_fault servers sheet returns joined column) (check (not (is_zero (determinant sums))) 18)
  unfolding line_refusal line_fault pool_fault
  refusal_is = simp or_assoc

  pub fit_refused : (r : Refusal) → refused (number_of r) ≡ placed servers sheet returns joined column
      → refused (number_of r) ≡ fit_of servers sheet returns joined column
  unfolding placed fit_of
  fit_refused r e = refused_by r _ _ (first_counts r _ _ (refused_told _ _ at e) ∙ sym refusal_is)

  -- what is known of them
  pub record Fits (p : Place) : Type 0 where
    pub none : line_fault servers sheet returns joined column ≡ 0
    pub takeable : Takeable servers p joined
    pub sums_are : sums_in (totals_from servers p joined) ≡ sums
    pub narrow : Narrow (2 ^ 62) (sums_in (totals_from servers p joined))

  -- the four totals are rules' sums
  same_sums : at.first + 4 ≤ at.published → sums_in (totals_from servers at joined) ≡ sums
  unfolding line_sums join_count
  same_sums four =
      let f = total_at servers at.published joined in
      let same : (i : ℕ) → i < 4 → f (at.first + i) ≡ get_or (join_totals document01 servers sheet joined) (at.first + i) 0 =
      λ i l. sym (ap (λ (t : List ℕ). get_or t (at.first + i) 0) (join_totals_lem servers sheet joined)
      ∙ get_d_tabulate f at.published (at.first + i) 0 (omega arith)) in
      let x_is = ap f (sym (add-zero at.first)) ∙ same 0 (omega arith) in
      λ i. record {
        n = accepted_count joined;
        x = x_is i;
        xx = same 1 (omega arith) i;
        y = same 2 (omega arith) i;
        xy = same 3 (omega arith) i;
      }

  -- their products fit
  small_sums : accepted_count joined ≤ 1024 → Narrow (2 ^ 62) (sums_in (totals_from servers at joined))
  small_sums few =
      let low = total_below servers at.published joined in
      narrow_at_p (sums_in (totals_from servers at joined)) (record {
        few = few;
        x_low = low at.first;
        y_low = low (at.first + 2);
        xx_low = low (at.first + 1);
        xy_low = low (at.first + 3);
      })

  fits_at : line_fault servers sheet returns joined column ≡ 0 → Fits at
  unfolding line_fault
  fits_at e =
      let p = at.published in
      let a = or_zero (pool_fault servers sheet returns) _ e in
      let b = or_zero (check (names_point column cs) 2) _ a.1 in
      let four = four_within cs column (check_holds (names_point column cs) 1 b.0) in
      let h : Poolable servers sheet returns p = passed servers sheet returns p refl a.0 in
      let sound : joined_fault_at servers p returns joined ≡ 0 = sym (joined_fault_lem servers cs returns joined) ∙ b.1 in
      let m : (k : ℕ) → k < p → SummableTotals servers p k joined =
      λ k l. totals_summable servers p returns joined sound k h.limited.small l in
      let long : length joined ≡ totals_bytes p * servers = (m at.first (omega arith)).long in
      let least : totals_bytes p * 2 ≤ totals_bytes p * servers = mul-le-mul_left (totals_bytes p) h.limited.some in
      record {
        none = e;
        takeable = record { header = omega arith; four = four; summable = m };
        sums_are = same_sums four;
        narrow = small_sums (omega (arith, count_within servers p returns joined sound, h.few_returns));
      }

  pub placed_fits : (p : Place) → ok p ≡ placed servers sheet returns joined column → Fits p
  unfolding placed
  placed_fits p e =
      let r = done_told (line_fault servers sheet returns joined column) at p e in
      rw r.1 (fits_at r.0)

  pub fit_done : (p : Place) → Fits p → fitting_of (sums_in (totals_from servers p joined)) ≡ fit_of servers sheet returns joined column
  unfolding fitting_of fit_of
  fit_done p h = rw (h.sums_are, refusal_is, h.none, or_none) (go (is_zero (determinant sums)))
    where
      go : (b : Bool) → cond b (refused 18) (ok (line_of sums))
          ≡ cond (eqb (check (not b) 18) 0) (ok (line_of sums)) (refused (check (not b) 18))
      go true = refl
      go false = refl
