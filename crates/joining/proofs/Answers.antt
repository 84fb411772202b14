-- What joining answers by what the judge says: a refusal leaves the buffer; messages judged fit have all that the writing of
-- their totals asks for, and what is written is rules' totals (`join_totals_lem`). Assumes nothing.
use mathlib.Core.Path.{◌≡◌, sym, ◌∙◌}
use mathlib.Core.List.{List}
use Prim.Native.Nat.{ℕ, ◌*◌, ◌/◌, ◌≤◌, ◌<◌}
use native.Mathlib.Nat.{mul-le-mul_left}
use native.Mathlib.Omega.{arith}
use borrow.Author.Tests.{leb-true, ne_eqb}
use lib.Dec.{leb}
use lib.ListN.{length}
use Rattle.std.specs.Prelude.{Result, Ok}
use Rattle.records.specs.Answers.{answered, only_if}
use Rattle.records.specs.Outcome.{ok, refused}
use Rattle.records.specs.Refusals.{number_of, outcome_of}
use Rattle.records.specs.declared.Refusal.{Refusal}
use Rattle.records.proofs.Outcome.{or_zero}
use Rattle.records.proofs.Refusals.{number_nonzero}
use Rattle.words.specs.Bytes.{splice}
use Rattle.rules.specs.Settings.{document01}
use Rattle.rules.specs.Columns.{within, published_in, columns_of, sheet_fault, servers_fault, returns_fault, totals_fault}
use Rattle.rules.specs.Joining.{accepted_count, joined_fault, join_refusal, join_count, join_bytes}
use Rattle.rules.proofs.Circuits.Limits.{within_both}
use Rattle.rules.proofs.Circuits.Refusals.{sheet_limits_lem}
use Rattle.totals_message.specs.Totals.{totals_bytes, joined_fault_at, SummableTotals}
use Rattle.steps.proofs.Parts.{check_holds}
use Rattle.totals_message.proofs.Totals.{joined_fault_lem, join_totals_lem, totals_summable}
use Rattle.joining.specs.Calls.{joined_of, Joins, totals_of, Joinable, judged}
use Rattle.joining.specs.declared.Joining.{Joining}
use Rattle.joining.proofs.Faults.{refused_by, refused_told, done_told}

-- messages without a refusal
pub record Fit (servers : ℕ) (sheet : List ℕ) (returns : ℕ) (joined out : List ℕ) (w : ℕ) : Type 0 where
  pub none : join_refusal document01 servers sheet returns joined (length out) ≡ 0
  pub bytes_are : w ≡ 4 * published_in (columns_of sheet)
  pub entries_are : w / 4 ≡ published_in (columns_of sheet)
  pub joinable : Joinable servers (published_in (columns_of sheet)) joined out
  pub header : 6 ≤ length joined

module _ (servers : ℕ) (sheet : List ℕ) (returns : ℕ) (joined out : List ℕ) where
  pub joins_refused : (a : Result Joining Refusal) (r : Refusal) → outcome_of a ≡ refused (number_of r)
      → refused (number_of r) ≡ judged servers sheet returns joined (length out) → Joins servers sheet returns joined out a out
  unfolding judged answered joined_of only_if
  joins_refused a r is e =
      let n : number_of r ≡ join_refusal document01 servers sheet returns joined (length out) = refused_told _ _ _ e in
      record { answer_is = is ∙ refused_by r _ _ n; out_is = rw (sym n, ne_eqb (number_of r) 0 (number_nonzero r)) }

  fit_of_lem : (w : ℕ) → w ≡ 4 * published_in (columns_of sheet)
      → join_refusal document01 servers sheet returns joined (length out) ≡ 0 → Fit servers sheet returns joined out w
  unfolding join_refusal
  fit_of_lem w q e =
      let p = published_in (columns_of sheet) in
      let a = or_zero (servers_fault servers) _ e in
      let s = within_both 2 8 servers (check_holds (within 2 8 servers) 1 a.0) in
      let b = or_zero (sheet_fault sheet) _ a.1 in
      let l = sheet_limits_lem sheet b.0 in
      let few : p ≤ 256 = omega (arith, l.published_most, l.entries_most) in
      let d = or_zero (totals_fault document01 returns (columns_of sheet)) _ (or_zero (returns_fault returns) _ b.1).1 in
      let f = or_zero (joined_fault document01 servers (columns_of sheet) returns joined) _ d.1 in
      let sound : joined_fault_at servers p returns joined ≡ 0 = sym (joined_fault_lem servers (columns_of sheet) returns joined) ∙ f.0 in
      let m : (k : ℕ) → k < p → SummableTotals servers p k joined
      = λ k h. totals_summable servers p returns joined sound k few h in
      let long : length joined ≡ totals_bytes p * servers = (m 0 (omega (arith, l.some_published))).long in
      let least : totals_bytes p * 2 ≤ totals_bytes p * servers = mul-le-mul_left (totals_bytes p) s.0 in
      record {
        none = e;
        bytes_are = q;
        entries_are = omega arith;
        joinable =
            record {
              small = few;
              summable = m;
              room = leb-true (4 * p) (length out) (check_holds (leb (4 * p) (length out)) 13 f.1);
            };
        header = omega arith;
      }

  pub judged_fit : (w : ℕ) → ok w ≡ judged servers sheet returns joined (length out) → Fit servers sheet returns joined out w
  unfolding judged answered
  judged_fit w e =
      let d = done_told (join_refusal document01 servers sheet returns joined (length out)) _ w e in
      fit_of_lem w d.1 d.0

  module _ (w : ℕ) (f : Fit servers sheet returns joined out w) where
    pub fit_joinable : Joinable servers (w / 4) joined out
    fit_joinable = rw f.entries_are f.joinable

    pub joins_done : Joins servers sheet returns joined out
        (Ok (record { accepted = accepted_count joined; written = w })) (splice out 0 (totals_of servers (w / 4) joined))
    unfolding joined_of only_if join_count join_bytes totals_of
    joins_done =
        record {
          answer_is = rw (f.none, f.bytes_are);
          out_is = rw (f.none, f.entries_are, join_totals_lem servers sheet joined);
        }
