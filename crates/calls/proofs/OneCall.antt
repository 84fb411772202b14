-- One C call: what it handed back is what the rules tell of its table, and the table that it left is the next one. Each is
-- its function's promise, read from the results. Assumes the promise of the call.
use mathlib.Core.Path.{◌≡◌, refl, ap, ◌∙◌}
use mathlib.Core.Bool.{Bool, true, false, cond, ◌&&◌}
use mathlib.Core.List.{List}
use Prim.Native.Nat.{ℕ, ◌+◌, ◌*◌, ◌/◌, ◌≤◌}
use native.Mathlib.Nat.{mul_comm, mul-div_cancel}
use native.Mathlib.Omega.{arith}
use borrow.Author.Tests.{leb-true}
use lib.Dec.{eqb, leb}
use lib.ListN.{length}
use Rattle.algebra.proofs.Members.{and_left, and_right}
use Rattle.words.specs.Bytes.{part}
use Rattle.words.proofs.Splice.{length_part}
use Rattle.words.proofs.Elements.{length_elements}
use Rattle.records.specs.Answers.{if_done}
use Rattle.waiting.specs.Changes.{unless_refused}
use Rattle.records.proofs.Outcome.{or_zero}
use Rattle.rules.specs.Settings.{document01}
use Rattle.rules.specs.Columns.{published_in, totals_fit}
use Rattle.rules.specs.Messages.{round_length}
use Rattle.rules.specs.Server.{message_one, message_two, totals_length}
use Rattle.rules.specs.Table.{table_fault, table_sound, header_sound, counts_sound, table_length, totals_place, totals_in, opened_in, entered_in}
use Rattle.rules.specs.WaitingList.{waiting_count}
use Rattle.rules.specs.Table.{Lent, sheet_size, columns_in, returns_in, decided_in}
use Rattle.rules.specs.Table.{share_refused, share_table, share_bytes, one_refused, one_table, one_bytes, two_refused, two_verdict}
use Rattle.rules.specs.Table.{enter_refused, drop_refused, close_refused, close_table, close_bytes}
use Rattle.rules.specs.Ledger.{refused, judged, done}
use Rattle.rules.specs.Runs.{table_refusal, table_after, table_answer, table_step, table_says}
use Rattle.rules.proofs.Histories.MessageBytes.{length_message}
use Rattle.rules.proofs.Histories.ClosingBytes.{length_totals}
use Rattle.rules.proofs.Histories.Checks.{check_passed}
use Rattle.calls.specs.Calls.{CCall, pool_share, pool_round_one, pool_round_two, pool_enter, pool_drop, pool_close, Kept}
use Rattle.calls.specs.Calls.{before, after, call_of, answer_of, LeavesRest}
use Rattle.calls.proofs.Writing.{answer_same, table_kept, number_kept, number_done, hands, untouched}

-- the messages have the length that is told
share_long : (T : Lent) (m : List ℕ) (r s : ℕ) → length (share_bytes document01 T m r s) ≡ round_length document01 34
unfolding share_bytes message_one
share_long T m r s = length_message document01 34 _ _ _

one_long : (T : Lent) (id : ℕ) (joined : List ℕ) → length (one_bytes document01 T id joined) ≡ round_length document01 35
unfolding one_bytes message_two
one_long T id joined = length_message document01 35 _ _ _

-- the totals of a table within the limits
totals_long : (L : Lent) → table_fault document01 L ≡ 0
    → length (totals_in document01 L.bytes) ≡ published_in (columns_in document01 L.bytes)
unfolding table_fault table_sound counts_sound table_length totals_place
totals_long L e =
    let T : List ℕ = L.bytes in
    let waiting : ℕ = waiting_count L.slots in
    let p = published_in (columns_in document01 T) in
    let size = table_length document01 (sheet_size document01 T) (columns_in document01 T) (returns_in document01 T) in
    let a = totals_place document01 (sheet_size document01 T) (columns_in document01 T) (returns_in document01 T) in
    let fits : Bool = totals_fit document01 (returns_in document01 T) (columns_in document01 T) in
    let few : Bool =
    leb (decided_in document01 T + waiting) (returns_in document01 T)
    && leb (entered_in document01 T) (decided_in document01 T) in
    let sound : table_sound document01 L ≡ true = check_passed (table_sound document01 L) 10 e in
    let counts : (fits && (leb size (length T) && few)) ≡ true =
    and_left (counts_sound document01 T waiting) _ (and_right (header_sound document01 T) _ sound) in
    let room : size ≤ length T = leb-true size (length T) (and_left (leb size (length T)) few (and_right fits _ counts)) in
    let long : length (part a (4 * p) T) ≡ 4 * p = length_part a (4 * p) T (omega (arith, room)) in
    length_elements 4 (part a (4 * p) T) ∙ ap (λ (k : ℕ). k / 4) (long ∙ mul_comm 4 p) ∙ mul-div_cancel p (omega arith)

close_long : (T : Lent) (room : ℕ) → close_refused document01 T room ≡ 0
    → length (close_bytes document01 T) ≡ totals_length document01 (opened_in document01 T.bytes)
unfolding close_refused close_bytes totals_length
close_long T room e =
    length_totals document01 (opened_in document01 T.bytes) (entered_in document01 T.bytes) (totals_in document01 T.bytes)
    ∙ ap (λ (k : ℕ). 6 + 4 * k) (totals_long T (or_zero (table_fault document01 T) _ e).0)

-- a verdict is 1 or 0
one_is : (b : Bool) → eqb (cond b 1 0) 1 ≡ b
one_is true = refl
one_is false = refl

-- what a call says and does, as the rules' fold over a table has it
pub record Steps (c : CCall) : Type 0 where
  pub says : answer_of c ≡ table_says document01 (before c) (call_of c) (table_refusal document01 (before c) (call_of c))
  pub leaves : after c ≡ table_step document01 (before c) (call_of c) (table_refusal document01 (before c) (call_of c))
  pub rest : LeavesRest c

pub steps : (c : CCall) → Kept c → Steps c
unfolding table_refusal table_after table_answer unless_refused if_done
steps (pool_share T m r s out w a T' out' w') (l, k) =
    let f = share_refused document01 T m r s (length out) in
    let long : f ≡ 0 → length (share_bytes document01 T m r s) ≡ round_length document01 34 = λ z. share_long T m r s in
    record {
      says = hands f _ _ out w a out' w' k long;
      leaves = l;
      rest = untouched f _ _ out w a out' w' k long (share_table document01 T m r s) T T' l;
    }
steps (pool_round_one T id joined out w a T' out' w') (l, k) =
    let f = one_refused document01 T id joined (length out) in
    let long : f ≡ 0 → length (one_bytes document01 T id joined) ≡ round_length document01 35 = λ z. one_long T id joined in
    record {
      says = hands f _ _ out w a out' w' k long;
      leaves = l;
      rest = untouched f _ _ out w a out' w' k long (one_table document01 T id joined) T T' l;
    }
steps (pool_round_two T id joined v a T' v') k =
    let f = two_refused document01 T id joined in
    record {
      says =
          ap (λ (x : ℕ). cond (eqb x 0) (judged (eqb v' 1)) (refused x)) k.answer_is
          ∙ answer_same f (judged (eqb v' 1)) (judged (two_verdict document01 T joined)) (λ z. ap (λ (x : ℕ). judged (eqb x 1))
          (number_done f _ v v' k.accepted_is z)
          ∙ ap judged (one_is (two_verdict document01 T joined)));
      leaves = k.table_is;
      rest = λ h.
          let z : f ≡ 0 → ⊥ = λ q. h (k.answer_is ∙ q) in
          (table_kept f _ T T' k.table_is z, number_kept f _ v v' k.accepted_is z);
    }
steps (pool_enter T id a T') k = record {
  says = ap (λ (x : ℕ). cond (eqb x 0) done (refused x)) k.answer_is;
  leaves = k.table_is;
  rest = λ h. table_kept (enter_refused document01 T id) _ T T' k.table_is (λ q. h (k.answer_is ∙ q));
}
steps (pool_drop T id a T') k = record {
  says = ap (λ (x : ℕ). cond (eqb x 0) done (refused x)) k.answer_is;
  leaves = k.table_is;
  rest = λ h. table_kept (drop_refused document01 T id) _ T T' k.table_is (λ q. h (k.answer_is ∙ q));
}
steps (pool_close T out w a T' out' w') (l, k) =
    let f = close_refused document01 T (length out) in
    record {
      says = hands f _ _ out w a out' w' k (close_long T (length out));
      leaves = l;
      rest = untouched f _ _ out w a out' w' k (close_long T (length out)) (close_table document01 T) T T' l;
    }
