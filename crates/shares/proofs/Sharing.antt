-- A share: refused where the table is unsound or a check refuses, which leaves all as it was (`refused_as`), else taken
-- (`share_done`). One that no check refuses keeps to the limits that taking asks for, and a record is free for it, since fewer
-- than eight wait (`takable`). Assumes nothing.
use mathlib.Core.Path.{◌≡◌, refl, sym, ◌∙◌}
use mathlib.Core.Bool.{true, not}
use mathlib.Core.List.{List}
use Prim.Native.Nat.{ℕ, ◌≤◌, ◌<◌}
use native.Mathlib.Omega.{arith}
use borrow.Author.Tests.{ne_eqb, leb-true}
use lib.Dec.{leb}
use lib.ListN.{length}
use Rattle.std.specs.Prelude.{Result, Ok, Err, Some}
use Rattle.std.specs.Result.{IsErrAnd}
use Rattle.std.proofs.lemmas.Result.{err_from_is_err_and}
use Rattle.words.specs.Bytes.{all_below}
use Rattle.records.specs.Outcome.{refused}
use Rattle.records.specs.Refusals.{number_of}
use Rattle.records.specs.Answers.{only_if}
use Rattle.records.specs.declared.Refusal.{Refusal}
use Rattle.records.proofs.Refusals.{number_nonzero}
use Rattle.records.proofs.Outcome.{or_none, or_first, or_zero}
use Rattle.slots.specs.Slots.{applied}
use Rattle.slots.specs.declared.Change.{Change}
use Rattle.rules.specs.Settings.{document01}
use Rattle.rules.specs.Columns.{Column, check}
use Rattle.rules.specs.Messages.{id_in, round_length}
use Rattle.rules.specs.Server.{share_refusal}
use Rattle.rules.specs.WaitingList.{stage_one, free_place, waiting_count, slot_of, numbers_of, put_numbers}
use Rattle.rules.specs.Table.{Lent, columns_at, table_state, share_taken, share_refused, share_table}
use Rattle.rules.proofs.Waiting.Records.{free_place_lem}
use Rattle.share_message.specs.Shares.{header_fault_at, share_at, share_part}
use Rattle.share_message.proofs.Shares.{header_long, part_sound}
use Rattle.steps.proofs.Parts.{check_holds}
use Rattle.limits.specs.Sheets.{size_of, pair_sound}
use Rattle.limits.proofs.Sheets.{pair_below}
use Rattle.layout.specs.declared.Table.{Table}
use Rattle.waiting.specs.Changes.{lent, records_at}
use Rattle.waiting.specs.declared.writing.Sent.{Sent}
use Rattle.waiting.proofs.Changes.{refused_changes, done_changes}
use Rattle.table.specs.Reading.{found_in, Sound}
use Rattle.table.proofs.Answers.{unsound, not_refused}
use Rattle.share_checks.specs.Checks.{start_fault, message_fault, is_taken, last_fault, Standing}
use Rattle.share_checks.proofs.Faults.{start_few}
use Rattle.share_checks.proofs.Refusing.{refusal_in_order_lem}
use Rattle.shares.specs.Calls.{Shares}
use Rattle.shares.specs.Taking.{Takable, Takes}

-- ---- what a sound table gives to the checks
pub standing : (T : Lent) (k : Table) → Sound T k → Standing T.bytes k T.slots
standing T k h = record {
  says = h.says;
  limited = h.limited;
  long = h.long;
  eight = h.eight;
  decided_few = h.decided_few;
}

module _ (T : Lent) (m : List ℕ) (r s : ℕ) (out : List ℕ) where
  -- ---- a refusal e, which the answer a passes on
  refused_by_lem : (e : Refusal) → share_refused document01 T m r s (length out) ≡ number_of e → Shares T m r s out (Err e) T.elements out
  unfolding only_if
  refused_by_lem e q = record {
    changes =
        refused_changes (share_refused document01 T m r s (length out)) (share_table document01 T m r s) T (number_of e) q
        (number_nonzero e);
    out_is = rw (q, ne_eqb (number_of e) 0 (number_nonzero e));
    written_is = tt;
  }

  refused_as : (a : Result Sent Refusal) (e : Refusal) → IsErrAnd a (λ y. y ≡ e)
      → share_refused document01 T m r s (length out) ≡ number_of e → Shares T m r s out a T.elements out
  refused_as a e h q = let p = err_from_is_err_and a h in rw (p.1, p.2) (refused_by_lem e q)

  pub share_unsound : (a : Result Sent Refusal) (e : Refusal) → IsErrAnd a (λ y. y ≡ e) → refused (number_of e) ≡ found_in T
      → Shares T m r s out a T.elements out
  unfolding share_refused
  share_unsound a e h q = let u = unsound T (number_of e) (sym q) in refused_as a e h (rw u.0 (or_first (number_of e) _ u.1))

  module _ (k : Table) (h : Sound T k) (x : ℕ) (e : x ≡ share_refusal document01 (table_state document01 T) m r s (length out)) where
    refusal_is : share_refused document01 T m r s (length out) ≡ x
    unfolding share_refused
    refusal_is = rw (not_refused T k h, or_none, e)

    -- ---- no refusal
    module _ (none : x ≡ 0) where
      abbrev size : ℕ
      size = size_of k.entries k.gates

      abbrev cs : List Column
      cs = columns_at document01 T

      abbrev taken : Change
      taken = records_at (free_place T.slots) (slot_of stage_one (share_taken document01 T m r s))

      -- each of the checks holds
      checks : (waiting_count T.slots < 8)
          × (header_fault_at size k.own m ≡ 0)
          × (check (all_below 2147483647 (share_at size m)) 8 ≡ 0)
          × (last_fault T.bytes k T.slots m r s (length out) ≡ 0)
      unfolding message_fault
      checks =
          let last = last_fault T.bytes k T.slots m r s (length out) in
          let z = sym (refusal_in_order_lem T.bytes T.slots m r s (length out) T.elements k (standing T k h)) ∙ sym e ∙ none in
          let a = or_zero (start_fault k (waiting_count T.slots)) _ z in
          let b = or_zero (message_fault size k.own m) last a.1 in
          let c = or_zero (header_fault_at size k.own m) (check (all_below 2147483647 (share_at size m)) 8) b.0 in
          (start_few k (waiting_count T.slots) a.0, c.0, c.1, b.1)

      -- a record is free
      free : free_place T.slots < 8
      free =
          let l : waiting_count T.slots < length T.slots = omega (arith, checks.0, h.eight) in
          omega (arith, free_place_lem T.slots l, h.eight)

      -- the pair and the room
      last_holds : (pair_sound k.gates r s ≡ true) × (round_length document01 34 ≤ length out)
      unfolding last_fault
      last_holds =
          let b = or_zero (check (not (is_taken T.bytes k T.slots (id_in m))) 10) _ checks.3 in
          let d = or_zero (check (pair_sound k.gates r s) 9) (check (leb 22 (length out)) 14) b.1 in
          (check_holds (pair_sound k.gates r s) 8 d.0, leb-true 22 (length out) (check_holds (leb 22 (length out)) 13 d.1))

      -- x is the part that the check of the header hands back
      pub takable : (x : List ℕ) → x ≡ share_part size k.own m → Takable T k m x r s × (round_length document01 34 ≤ length out)
      takable x ex =
          let f = pair_below k.gates r s last_holds.0 in (
            record {
              table = h;
              free = free;
              brought = record {
                size_most = omega (arith, h.limited);
                long = header_long size k.own m checks.1;
                part = ex ∙ part_sound size k.own m checks.1;
              };
              elements = check_holds (all_below 2147483647 (share_at size m)) 7 checks.2;
              r_below = f.0;
              s_below = f.1;
            },
            last_holds.1,
          )

      -- the record and the numbers
      table_is : (es : List ℕ)
          → es ≡ put_numbers cs T.elements (free_place T.slots) (numbers_of (share_taken document01 T m r s))
          → lent T.bytes (applied T.slots (Some taken)) es ≡ share_table document01 T m r s
      unfolding share_table
      table_is es e = rw e

      pub share_done : (c : Change) (es out' : List ℕ) → Takes T m r s out c es out'
          → Shares T m r s out (Ok (record { change = c; written = 22 })) es out'
      unfolding only_if
      share_done c es out' t =
          let z : share_refused document01 T m r s (length out) ≡ 0 = refusal_is ∙ none in
          let l : free_place T.slots < length T.slots = omega (arith, free, h.eight) in
          record {
            changes =
                rw t.record_is
                (done_changes (share_refused document01 T m r s (length out)) (share_table document01 T m r s) T taken.at taken.slot
                T.bytes es z l (table_is es t.numbers_is));
            out_is = rw z t.out_is;
            written_is = refl;
          }

  -- what no check lets pass
  pub share_refused_lem : (k : Table) → Sound T k → (a : Result Sent Refusal) (e : Refusal) → IsErrAnd a (λ y. y ≡ e)
      → number_of e ≡ share_refusal document01 (table_state document01 T) m r s (length out) → Shares T m r s out a T.elements out
  share_refused_lem k h a e p q = refused_as a e p (refusal_is k h (number_of e) q)
