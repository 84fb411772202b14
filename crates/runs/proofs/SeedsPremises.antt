-- Each premise of what is said of returns made from seeds is met in the run with seeds: making is not refused, its bytes are the
-- messages of the run but that server 2 gets a long one, and each server takes its own; and before they do, they are ready for the
-- return. antt computes the premises, and the theorems are applied. Assumes nothing.
use mathlib.Core.Path.{◌≡◌, refl, sym, ap, ◌∙◌, subst}
use mathlib.Core.Logic.{inl, inr}
use mathlib.Core.Bool.{Bool, true, false, cond}
use mathlib.Core.List.{List, [], ◌∷◌, ◌++◌, map}
use Prim.Native.Nat.{ℕ, ◌<◌}
use borrow.Author.Tests.{eqb-true}
use lib.Dec.{eqb, lit<}
use lib.ListN.{length, get_or}
use Rattle.algebra.specs.Lists.{In, every, count_from}
use Rattle.algebra.proofs.Rearrangement.{rearranged_refl}
use Rattle.words.specs.Bytes.{elements_of, all_below, same_bytes}
use Rattle.words.proofs.Below.{all_of_below}
use Rattle.words.proofs.Same.{same_equal}
use Rattle.rules.specs.Settings.{document01}
use Rattle.rules.specs.Columns.{columns_of}
use Rattle.rules.specs.Judging.{share_size, lets_in}
use Rattle.rules.specs.Making.{share_message}
use Rattle.rules.specs.Seeds.{seed_message, seed_elements, make_seeded_refusal}
use Rattle.rules.specs.Ledger.{share, enter, empty, refusal_of, run_ledger, ledger_answers}
use Rattle.rules.specs.Pools.{Pool, opened_at, ledger_at, entered_at, JudgedToEnd}
use Rattle.rules.specs.WholeRun.{Brings, Ready, firsts, seconds, both_rounds, WholeRun}
use Rattle.rules.specs.Made.{share_made, MessageFor, long, MadeReturn, seeded_part, drawn_seeds, SeededBytes}
use Rattle.rules.specs.Made.{Took, MadeOf, CanTake, MadeAccepted}
use Rattle.rules.specs.Made.{joined_totals, how_many, EncodedTotals, MadeRun}
use Rattle.rules.proofs.Computed.Computing.{everything}
use Rattle.rules.proofs.Histories.Checks.{every_at}
use Rattle.rules.proofs.Runs.WholeRuns.{document01_whole_run}
use Rattle.rules.proofs.Runs.MadeRuns.{document01_made_run}
use Rattle.runs.proofs.Tests.{bytes_call, opens_at, is_pool, pool_of, does_bring, is_ended, is_ready, is_ready_lem}
use Rattle.runs.proofs.TwoServers.{ones, twos, short, lent, sheet}
use Rattle.runs.proofs.SeedsPool.{value_bytes, random_bytes, seeds, share_2, shares, messages, wrong, begun, rest, calls}
use Rattle.runs.proofs.SeedsPool.{pool, meets_them, ended}

whole_run : WholeRun document01 pool
whole_run = document01_whole_run pool

made_run : MadeRun document01 pool
made_run = document01_made_run pool

-- ---- making from seeds: not refused, where 118 bytes are lent
not_refused : make_seeded_refusal document01 sheet 3 value_bytes random_bytes seeds 118 ≡ 0
unfolding everything
not_refused = refl

pub made_1 : SeededBytes document01 sheet 3 1 value_bytes random_bytes seeds
made_1 = made_run.made_seeded_lem sheet 3 1 value_bytes random_bytes seeds 118 not_refused

abbrev read_values : List ℕ
read_values = elements_of 4 value_bytes

abbrev drawn : List ℕ
drawn = drawn_seeds document01 sheet 3 1 value_bytes random_bytes seeds

-- some servers get the long message with what their seed stands for; this is a return made by the rules too
abbrev mixed_part : (ℕ → Bool) → ℕ → List ℕ
mixed_part isLong i =
    cond (isLong i) (share_message document01 1 i (share_made document01 sheet 3 1 read_values drawn i))
    (seeded_part document01 sheet 3 1 value_bytes random_bytes seeds i)

mixed_1 : (isLong : ℕ → Bool) → MadeReturn document01 sheet 3 1 read_values drawn (mixed_part isLong)
mixed_1 isLong = record {
  is_read = made_1.return.is_read;
  several = made_1.return.several;
  legal = made_1.return.legal;
  enough = made_1.return.enough;
  below = made_1.return.below;
  message_for = λ i l. by i l (isLong i);
}
  where
    by : (i : ℕ) → i < 3 → (b : Bool)
        → MessageFor document01 sheet 3 1 read_values drawn i
        (cond b (share_message document01 1 i (share_made document01 sheet 3 1 read_values drawn i))
        (seeded_part document01 sheet 3 1 value_bytes random_bytes seeds i))
    by i l true = long refl
    by i l false = made_1.return.message_for i l

-- the messages of the run: server 2 gets the long one
abbrev parts : ℕ → List ℕ
parts = mixed_part (eqb 2)

abbrev same_part : ℕ → Bool
same_part i = same_bytes (messages i) (parts i)

same_parts : every same_part (count_from 0 3) ≡ true
unfolding everything seeded_part messages
same_parts = refl

part_is : (i : ℕ) → i < 3 → messages i ≡ parts i
part_is i l = same_equal (messages i) (parts i) (every_at same_part 3 same_parts i l)

-- each is taken behind the calls that are refused
abbrev taken : ℕ → Bool
taken i =
    let o = opened_at document01 pool i in
    eqb (refusal_of document01 o (run_ledger document01 o empty (begun i)) (share (messages i) 4 9 22)) 0

all_taken : every taken (count_from 0 3) ≡ true
unfolding everything messages wrong
all_taken = refl

took : (i : ℕ) → i < 3 → Took document01 pool i (parts i)
unfolding calls
took i l = record {
  before = begun i;
  after = rest i;
  r = 4;
  s = 9;
  room = 22;
  among = ap (λ (m : List ℕ). begun i ++ (share m 4 9 22 ∷ rest i)) (part_is i l);
  not_refused =
      ap (λ (m : List ℕ). refusal_of document01 (opened_at document01 pool i)
      (run_ledger document01 (opened_at document01 pool i) empty (begun i)) (share m 4 9 22)) (sym (part_is i l))
      ∙ eqb-true _ 0 (every_at taken 3 all_taken i l);
}

-- so it is delivered whole
pub whole_1 : MadeOf document01 pool 1 read_values
whole_1 = made_run.delivered 1 read_values drawn parts (mixed_1 (eqb 2)) (lit< tt) took

-- ---- the verdict, and the total of its yes
entered_0 : entered_at document01 pool 0 ≡ 1 ∷ []
unfolding everything calls messages wrong ones twos
entered_0 = refl

honest_1 : (v : Bool) → JudgedToEnd document01 pool 1 1 v → v ≡ true
honest_1 v k = whole_run.honest meets_them.unaltered 1 (lit< tt) 1 v k whole_1.0

each_made : (id : ℕ) → In id (entered_at document01 pool 0) → MadeOf document01 pool id read_values
each_made id h = go (subst (In id) entered_0 h)
  where
    go : In id (1 ∷ []) → MadeOf document01 pool id read_values
    go (inl e) = subst (λ (k : ℕ). MadeOf document01 pool k read_values) e whole_1
    go (inr k) = absurd k

totals_1 : EncodedTotals document01 pool (entered_at document01 pool 0) (λ id. read_values)
totals_1 = made_run.totals meets_them ended 0 (lit< tt) _ each_made

one_yes : get_or (joined_totals document01 pool) 0 0 ≡ 1
unfolding everything how_many calls messages wrong ones twos
one_yes = totals_1.yes_total [] [] refl

-- ---- a seed's message and a long one are sound
seed_1 : length (count_from 0 32) ≡ 32
unfolding count_from
seed_1 = refl

brings_seed_lem : Brings document01 (columns_of sheet) 1 1 (seed_message 1 1 (count_from 0 32))
    (seed_elements document01 (count_from 0 32) 1 (share_size (columns_of sheet)))
brings_seed_lem = whole_run.sound_seed 1 1 (count_from 0 32) seed_1 (lit< tt)

share_2_long : length share_2 ≡ share_size (columns_of sheet)
unfolding everything
share_2_long = refl

share_2_below : all_below 2147483647 share_2 ≡ true
unfolding everything
share_2_below = refl

brings_elements : Brings document01 (columns_of sheet) 1 2 (share_message document01 1 2 share_2) share_2
brings_elements = whole_run.sound_elements 1 2 share_2 share_2_long (all_of_below 2147483647 share_2 share_2_below)

-- ---- behind the calls that are refused the servers are ready
is_begun : is_pool document01 3 sheet 3 1 (λ i. lent 31 88) begun ≡ true
unfolding everything is_pool opens_at bytes_call wrong
is_begun = refl

abbrev begun_pool : Pool document01
begun_pool = pool_of document01 3 sheet 3 1 (λ i. lent 31 88) begun is_begun

ready_1 : Ready document01 begun_pool 1 shares 4 9 messages 22 14
unfolding everything is_ready does_bring is_ended messages wrong
ready_1 = is_ready_lem document01 begun_pool 1 messages shares 4 9 22 14 refl

-- the answers of each server to the share and both rounds, in short
handled_1 : (i : ℕ) → i < 3
    → map short (ledger_answers document01 (opened_at document01 begun_pool i) (ledger_at document01 begun_pool i)
    (share (messages i) 4 9 22
    ∷ both_rounds 1 (firsts document01 begun_pool 1 shares 4 9) (seconds document01 begun_pool 1 shares 4 9) 14))
    ≡ 100 ∷ 100 ∷ 200 ∷ []
unfolding short
handled_1 i l =
    ap (map short) ((document01_whole_run begun_pool).handled 1 messages shares 4 9 22 14 ready_1 i l _ _
    (rearranged_refl (firsts document01 begun_pool 1 shares 4 9)) (rearranged_refl (seconds document01 begun_pool 1 shares 4 9)))
    ∙ ap (λ (v : Bool). 100 ∷ 100 ∷ cond v 200 300 ∷ []) let_in
  where
    let_in : lets_in document01 (columns_of sheet) 3 (λ j e. get_or (shares j) e 0) 4 9 ≡ true
    let_in = unfold everything in refl

-- and a return made from seeds is accepted and entered, whichever servers but the first get a seed
can_take : CanTake document01 begun_pool 1 4 9 22 14
can_take = record {
  waits = ready_1.waits;
  open_all = ready_1.open_all;
  below_eight = ready_1.below_eight;
  fewer = ready_1.fewer;
  unused = ready_1.unused;
  id_fits = ready_1.id_fits;
  pair = ready_1.pair;
  enough = ready_1.enough;
  enough_one = ready_1.enough_one;
}

accepted_1 : (isLong : ℕ → Bool)
    → MadeAccepted document01 begun_pool 1 read_values drawn (mixed_part isLong) 4 9 22 14
accepted_1 isLong =
    (document01_made_run begun_pool).accepted 1 read_values drawn (mixed_part isLong) (mixed_1 isLong) 4 9 22 14 can_take

entered_1 : (i : ℕ) → i < 3
    → map short (ledger_answers document01 (opened_at document01 begun_pool i) (ledger_at document01 begun_pool i)
    (share (parts i) 4 9 22
    ∷ (both_rounds 1 (firsts document01 begun_pool 1 (share_made document01 sheet 3 1 read_values drawn) 4 9)
    (seconds document01 begun_pool 1 (share_made document01 sheet 3 1 read_values drawn) 4 9) 14
    ++ (enter 1 ∷ []))))
    ≡ 100 ∷ 100 ∷ 200 ∷ 400 ∷ []
unfolding short
entered_1 i l = ap (map short) (accepted_1 (eqb 2) i l _ _ (rearranged_refl _) (rearranged_refl _))
