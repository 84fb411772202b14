-- Each premise of the theorem on whole runs, and of those on made returns, is met: in the run of two servers the honest
-- return's messages are the bytes that making wrote, and once it is entered both servers are ready for another
-- return. antt computes the premises, and the theorems are applied. Assumes nothing.
use mathlib.Core.Path.{◌≡◌, refl, sym, ap, ap₂, ◌∙◌, subst}
use mathlib.Core.Logic.{inl, inr}
use mathlib.Core.Bool.{Bool, true, false, cond}
use mathlib.Core.List.{List, [], ◌∷◌, ◌++◌, map}
use Prim.Native.Nat.{ℕ, suc, ◌+◌, ◌-◌, ◌*◌, ◌≤◌, ◌<◌, max}
use native.Mathlib.Omega.{arith}
use borrow.Author.Tests.{eqb-true}
use lib.Dec.{eqb, lit<}
use lib.ListN.{get_or, take, drop}
use Rattle.algebra.specs.Lists.{all∷, In, every, count_from}
use Rattle.algebra.proofs.Rearrangement.{rearranged_refl}
use Rattle.algebra.specs.Count.{count_pairs}
use Rattle.words.specs.Bytes.{bytes_of_all, elements_of}
use Rattle.rules.specs.Settings.{document01}
use Rattle.rules.specs.Columns.{columns_of}
use Rattle.rules.specs.Circuit.{gates_in, tests_in}
use Rattle.rules.specs.Judging.{lets_in}
use Rattle.rules.specs.Making.{share_message, made_share, make_refusal}
use Rattle.rules.specs.Ledger.{Call, share, enter, Note, empty, refusal_of, run_ledger, ledger_answers}
use Rattle.rules.specs.Pools.{Pool, opened_at, ledger_at, entered_at, rejected_at, notes_at, return_of, KeepsForm, JudgedToEnd, JudgedByPair}
use Rattle.rules.specs.WholeRun.{Ready, firsts, seconds, both_rounds, WholeRun}
use Rattle.rules.specs.Made.{made_part, share_made, MadeBytes, Took, MadeOf, CanTake, MadeAccepted, joined_totals, how_many, EncodedTotals}
use Rattle.rules.proofs.Computed.Computing.{everything}
use Rattle.rules.proofs.Histories.Checks.{every_at}
use Rattle.rules.proofs.Runs.WholeRuns.{document01_whole_run}
use Rattle.rules.proofs.Runs.MadeRuns.{document01_made_run}
use Rattle.runs.proofs.Tests.{bytes_call, opens_at, is_pool, pool_of, does_bring, is_ended, is_ready, is_ready_lem}
use Rattle.runs.proofs.TwoServers.{ones, twos, longs, give, short, lent, sheet, random, honest, false_return, calls}
use Rattle.runs.proofs.TwoServers.{pool, meets_them, ended}

-- ---- making: yes, and the random elements, as bytes
abbrev pub value_bytes : List ℕ
value_bytes = bytes_of_all 4 (1 ∷ [])

abbrev pub random_bytes : List ℕ
random_bytes = bytes_of_all 4 random

-- not refused, where 84 bytes are lent
pub not_refused : make_refusal document01 sheet 2 value_bytes random_bytes 84 ≡ 0
unfolding everything
not_refused = refl

abbrev read_values : List ℕ
read_values = elements_of 4 value_bytes

abbrev read_random : List ℕ
read_random = elements_of 4 random_bytes

pub made_77 : MadeBytes document01 sheet 2 77 value_bytes random_bytes
made_77 = (document01_made_run pool).made sheet 2 77 value_bytes random_bytes 84 not_refused

-- both servers took their parts of the bytes
abbrev part_at : ℕ → List ℕ
part_at = made_part document01 sheet 2 77 value_bytes random_bytes

values_read : read_values ≡ 1 ∷ []
unfolding everything
values_read = refl

random_read : read_random ≡ random
unfolding everything
random_read = refl

part_is : (i : ℕ) → i < 2 → share_message document01 77 i (honest i) ≡ part_at i
part_is i l =
    sym (made_77.message_is i l
    ∙ λ t. share_message document01 77 i (made_share document01 (columns_of sheet) 2 (values_read t) (random_read t) i))

-- taken as the first call
abbrev taken : ℕ → Bool
taken i = eqb (refusal_of document01 (opened_at document01 pool i) empty (share (share_message document01 77 i (honest i)) 4 9 22)) 0

both_taken : every taken (count_from 0 2) ≡ true
unfolding everything
both_taken = refl

took : (i : ℕ) → i < 2 → Took document01 pool i (part_at i)
unfolding run_ledger calls
took i l = record {
  before = [];
  after = drop 1 (calls i);
  r = 4;
  s = 9;
  room = 22;
  among = ap (λ (m : List ℕ). share m 4 9 22 ∷ drop 1 (calls i)) (part_is i l);
  not_refused =
      ap (λ (m : List ℕ). refusal_of document01 (opened_at document01 pool i) empty (share m 4 9 22)) (sym (part_is i l))
      ∙ eqb-true _ 0 (every_at taken 2 both_taken i l);
}

pub whole_77 : MadeOf document01 pool 77 read_values
whole_77 = (document01_made_run pool).delivered 77 read_values read_random part_at made_77.return (lit< tt) took

-- ---- verdicts at server 1: the honest return is let in by its pair, the false one is not
whole_run : WholeRun document01 pool
whole_run = document01_whole_run pool

in_77 : In 77 (entered_at document01 pool 1)
unfolding everything calls ones twos
in_77 = inl refl

in_78 : In 78 (rejected_at document01 pool 1)
unfolding everything calls ones twos
in_78 = inl refl

-- both were judged there, as the ledger shows
judged_77 : JudgedToEnd document01 pool 1 77 true
judged_77 = (whole_run.verdict_first_lem 1 (lit< tt)).entered_judged 77 in_77

judged_78 : JudgedToEnd document01 pool 1 78 false
judged_78 = (whole_run.verdict_first_lem 1 (lit< tt)).rejected_judged 78 in_78

by_pair_77 : JudgedByPair document01 pool 77 true
by_pair_77 = whole_run.verdict meets_them.unaltered 1 (lit< tt) 77 true judged_77

by_pair_78 : JudgedByPair document01 pool 78 false
by_pair_78 = whole_run.verdict meets_them.unaltered 1 (lit< tt) 78 false judged_78

-- the pair is that of the shares noted there
abbrev note_77 : Note
note_77 = record { id = 77; elements = honest 1; r = 4; s = 9 }

abbrev note_78 : Note
note_78 = record { id = 78; elements = false_return 1; r = 3; s = 9 }

noted_77 : In note_77 (notes_at document01 pool 1)
unfolding everything calls ones twos
noted_77 = inl refl

noted_78 : In note_78 (notes_at document01 pool 1)
unfolding everything calls ones twos
noted_78 = inr (inl refl)

abbrev lets : ℕ → ℕ → ℕ → Bool
lets id r s = lets_in document01 (columns_of sheet) 2 (return_of document01 pool id) r s

lets_77 : lets 77 4 9 ≡ true
lets_77 =
    let pair = by_pair_77.one_pair 1 (lit< tt) note_77 noted_77 refl in
    ap₂ (lets 77) pair.0 pair.1 ∙ sym by_pair_77.verdict_is

lets_78 : lets 78 3 9 ≡ false
lets_78 =
    let pair = by_pair_78.one_pair 1 (lit< tt) note_78 noted_78 refl in
    ap₂ (lets 78) pair.0 pair.1 ∙ sym by_pair_78.verdict_is

honest_77 : (v : Bool) → JudgedToEnd document01 pool 1 77 v → v ≡ true
honest_77 v k = whole_run.honest meets_them.unaltered 1 (lit< tt) 77 v k whole_77.0

-- the false return does not keep its form, so at most p × 3 pairs let it in
broken_78 : KeepsForm document01 pool 78 → ⊥
unfolding everything calls ones twos
broken_78 (all∷ e es) = omega arith

few_78 : count_pairs 2147483647 2147483647 (lets_in document01 (columns_of sheet) 2 (return_of document01 pool 78)) ≤ 2147483647 * 3
few_78 = subst (λ (k : ℕ). count_pairs 2147483647 2147483647 (lets_in document01 (columns_of sheet) 2 (return_of document01 pool 78))
    ≤ 2147483647 * k) most ((document01_made_run pool).few 78 broken_78)
  where
    most : max (suc (gates_in (columns_of sheet) + gates_in (columns_of sheet))) (tests_in (columns_of sheet) - 1) ≡ 3
    most = unfold everything in refl

-- ---- totals: every entered return is delivered whole, and one said yes
entered_0 : entered_at document01 pool 0 ≡ 77 ∷ []
unfolding everything calls ones twos
entered_0 = refl

each_made : (id : ℕ) → In id (entered_at document01 pool 0) → MadeOf document01 pool id read_values
each_made id h = go (subst (In id) entered_0 h)
  where
    go : In id (77 ∷ []) → MadeOf document01 pool id read_values
    go (inl e) = subst (λ (k : ℕ). MadeOf document01 pool k read_values) e whole_77
    go (inr k) = absurd k

totals_77 : EncodedTotals document01 pool (entered_at document01 pool 0) (λ id. read_values)
totals_77 = (document01_made_run pool).totals meets_them ended 0 (lit< tt) _ each_made

one_yes : get_or (joined_totals document01 pool) 0 0 ≡ 1
unfolding everything how_many calls ones twos
one_yes = totals_77.yes_total [] [] refl

-- ---- the first thirteen calls: 77 is entered, and nothing waits
abbrev pub early : ℕ → List Call
early i = take 13 (calls i)

pub is_early : is_pool document01 2 sheet 3 1 (λ i. lent 31 88) early ≡ true
unfolding everything is_pool opens_at bytes_call calls ones twos
is_early = refl

abbrev pub early_pool : Pool document01
early_pool = pool_of document01 2 sheet 3 1 (λ i. lent 31 88) early is_early

ready_honest : Ready document01 early_pool 78 honest 4 9 (longs 78 honest) 22 14
unfolding everything is_ready does_bring is_ended calls ones twos
ready_honest = is_ready_lem document01 early_pool 78 (longs 78 honest) honest 4 9 22 14 refl

ready_false : Ready document01 early_pool 78 false_return 3 9 (longs 78 false_return) 22 14
unfolding everything is_ready does_bring is_ended calls ones twos
ready_false = is_ready_lem document01 early_pool 78 (longs 78 false_return) false_return 3 9 22 14 refl

-- they accept and enter a return that making wrote
pub can_take : CanTake document01 early_pool 78 4 9 22 14
can_take = record {
  waits = ready_honest.waits;
  open_all = ready_honest.open_all;
  below_eight = ready_honest.below_eight;
  fewer = ready_honest.fewer;
  unused = ready_honest.unused;
  id_fits = ready_honest.id_fits;
  pair = ready_honest.pair;
  enough = ready_honest.enough;
  enough_one = ready_honest.enough_one;
}

made_78 : MadeBytes document01 sheet 2 78 value_bytes random_bytes
made_78 = (document01_made_run early_pool).made sheet 2 78 value_bytes random_bytes 84 not_refused

abbrev part_at_78 : ℕ → List ℕ
part_at_78 = made_part document01 sheet 2 78 value_bytes random_bytes

accepted_78 : MadeAccepted document01 early_pool 78 read_values read_random part_at_78 4 9 22 14
accepted_78 =
    (document01_made_run early_pool).accepted 78 read_values read_random part_at_78 made_78.return 4 9 22 14 can_take

-- the answers of each server to the three calls, in short
answered : (ℕ → List ℕ) → ℕ → ℕ → ℕ → List ℕ
answered shares r s i =
    map short (ledger_answers document01 (opened_at document01 early_pool i) (ledger_at document01 early_pool i)
    (give 78 shares r s i
    ∷ both_rounds 78 (firsts document01 early_pool 78 shares r s) (seconds document01 early_pool 78 shares r s) 14))

-- from what the pair says
answers_are : (shares : ℕ → List ℕ) (r s : ℕ) → Ready document01 early_pool 78 shares r s (longs 78 shares) 22 14 → (b : Bool)
    → lets_in document01 (columns_of sheet) 2 (λ j e. get_or (shares j) e 0) r s ≡ b
    → (i : ℕ) → i < 2 → answered shares r s i ≡ 100 ∷ 100 ∷ cond b 200 300 ∷ []
unfolding answered short
answers_are shares r s ready b e i l =
    ap (map short) ((document01_whole_run early_pool).handled 78 (longs 78 shares) shares r s 22 14 ready i l _ _
    (rearranged_refl (firsts document01 early_pool 78 shares r s)) (rearranged_refl (seconds document01 early_pool 78 shares r s)))
    ∙ ap (λ (v : Bool). 100 ∷ 100 ∷ cond v 200 300 ∷ []) e

handled_honest : (i : ℕ) → i < 2 → answered honest 4 9 i ≡ 100 ∷ 100 ∷ 200 ∷ []
handled_honest = answers_are honest 4 9 ready_honest true let_in
  where
    let_in : lets_in document01 (columns_of sheet) 2 (λ j e. get_or (honest j) e 0) 4 9 ≡ true
    let_in = unfold everything in refl

handled_false : (i : ℕ) → i < 2 → answered false_return 3 9 i ≡ 100 ∷ 100 ∷ 300 ∷ []
handled_false = answers_are false_return 3 9 ready_false false kept_out
  where
    kept_out : lets_in document01 (columns_of sheet) 2 (λ j e. get_or (false_return j) e 0) 3 9 ≡ false
    kept_out = unfold everything in refl

-- and the honest one is entered
entered_honest : (i : ℕ) → i < 2
    → map short (ledger_answers document01 (opened_at document01 early_pool i) (ledger_at document01 early_pool i)
    (share (part_at_78 i) 4 9 22
    ∷ (both_rounds 78 (firsts document01 early_pool 78 (share_made document01 sheet 2 78 read_values read_random) 4 9)
    (seconds document01 early_pool 78 (share_made document01 sheet 2 78 read_values read_random) 4 9) 14
    ++ (enter 78 ∷ []))))
    ≡ 100 ∷ 100 ∷ 200 ∷ 400 ∷ []
unfolding short
entered_honest i l = ap (map short) (accepted_78 i l _ _ (rearranged_refl _) (rearranged_refl _))
