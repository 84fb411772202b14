-- Each premise of what is said of mixed calls is met in the run of two servers with returns mixed: of the verdicts, of a
-- return's calls alone, and of a return handed in while others wait, whose rounds come between those of the others. antt
-- computes the premises, and the theorem is applied. Assumes nothing.
use mathlib.Core.Path.{◌≡◌, refl, sym, ap, ap₂, ◌∙◌}
use mathlib.Core.Logic.{inl, inr}
use mathlib.Core.Bool.{Bool, true, false, cond}
use mathlib.Core.List.{List, [], ◌∷◌, ◌++◌, map}
use mathlib.Core.Option.{some}
use Prim.Native.Nat.{ℕ, zero, suc, ◌≤◌, ◌<◌}
use lib.Dec.{lit<}
use lib.ListN.{length, get_or, take, drop}
use Rattle.algebra.specs.Lists.{In, Rearranged, swap, count_from}
use Rattle.algebra.proofs.Rearrangement.{rearranged_refl}
use Rattle.rules.specs.Settings.{document01}
use Rattle.rules.specs.Columns.{columns_of}
use Rattle.rules.specs.Judging.{lets_in}
use Rattle.rules.specs.Keyed.{find, those}
use Rattle.rules.specs.Server.{most_waiting, message_one}
use Rattle.rules.specs.Ledger.{Call, enter, Note, entered, Decided, waiting, empty, run_ledger, ledger_answers}
use Rattle.rules.specs.Runs.{table_answers}
use Rattle.rules.specs.Mixing.{on, decided_id, calls_on, answers_on, answers_to}
use Rattle.rules.specs.Pools.{Pool, opened_at, table_at, ledger_at, entered_at, rejected_at, notes_at, return_of, JudgedToEnd, JudgedByPair}
use Rattle.rules.specs.WholeRun.{Ready, first_wait, firsts, seconds, both_rounds}
use Rattle.rules.proofs.Computed.Computing.{everything}
use Rattle.rules.proofs.Runs.WholeRuns.{document01_whole_run}
use Rattle.runs.proofs.Tests.{bytes_call, opens_at, is_pool, pool_of, does_bring, is_ended, is_ready, is_ready_lem}
use Rattle.runs.proofs.TwoServers.{ones, twos, longs, short, lent, sheet, honest, false_return}
use Rattle.runs.proofs.MixedReturns.{shares_of, takes, calls, pool, meets_them}

-- ---- verdicts: the fifth return is let in by its pair, the sixth is not
abbrev note_5 : Note
note_5 = record { id = 5; elements = honest 0; r = 4; s = 9 }

abbrev note_6 : Note
note_6 = record { id = 6; elements = false_return 1; r = 3; s = 9 }

-- behind the fourth at server 0; behind the first and the fourth at server 1
noted_5 : In note_5 (notes_at document01 pool 0)
unfolding everything calls ones twos
noted_5 = inr (inl refl)

noted_6 : In note_6 (notes_at document01 pool 1)
unfolding everything calls ones twos
noted_6 = inr (inr (inl refl))

in_5 : In 5 (entered_at document01 pool 0)
unfolding everything calls ones twos
in_5 = inl refl

in_6 : In 6 (rejected_at document01 pool 1)
unfolding everything calls ones twos
in_6 = inl refl

-- the verdict on an id at server i, by its pair
by_pair : (i : ℕ) → i < 2 → (id : ℕ) (v : Bool) → JudgedToEnd document01 pool i id v → JudgedByPair document01 pool id v
by_pair i l id v = (document01_whole_run pool).verdict meets_them.unaltered i l id v

lets_by : (i : ℕ) (l : i < 2) (n : Note) → In n (notes_at document01 pool i) → (v : Bool) → JudgedToEnd document01 pool i n.id v
    → lets_in document01 (columns_of sheet) 2 (return_of document01 pool n.id) n.r n.s ≡ v
lets_by i l n h v k =
    let judged = by_pair i l n.id v k in
    let pair = judged.one_pair i l n h refl in
    ap₂ (lets_in document01 (columns_of sheet) 2 (return_of document01 pool n.id)) pair.0 pair.1 ∙ sym judged.verdict_is

lets_5 : lets_in document01 (columns_of sheet) 2 (return_of document01 pool 5) 4 9 ≡ true
lets_5 = lets_by 0 (lit< tt) note_5 noted_5 true (((document01_whole_run pool).verdict_first_lem 0 (lit< tt)).entered_judged 5 in_5)

lets_6 : lets_in document01 (columns_of sheet) 2 (return_of document01 pool 6) 3 9 ≡ false
lets_6 = lets_by 1 (lit< tt) note_6 noted_6 false (((document01_whole_run pool).verdict_first_lem 1 (lit< tt)).rejected_judged 6 in_6)

-- ---- the calls on one return alone: four of server 0's calls on the fifth are not refused
abbrev alone : ℕ → List Call
alone id = calls_on document01 (opened_at document01 pool 0) id empty (calls 0)

four_calls : length (alone 5) ≡ 4
unfolding everything calls_on calls ones twos
four_calls = refl

-- the answers that these had among the others
among_others : map short (answers_on document01 (opened_at document01 pool 0) 5 empty (calls 0)) ≡ 100 ∷ 100 ∷ 200 ∷ 400 ∷ []
unfolding everything answers_on short calls ones twos
among_others = refl

-- so have they alone, by the ledger
alone_answers : map short (ledger_answers document01 (opened_at document01 pool 0) empty (alone 5)) ≡ 100 ∷ 100 ∷ 200 ∷ 400 ∷ []
alone_answers = ap (map short) ((document01_whole_run pool).mixing 0 (lit< tt) 5).answers ∙ among_others

-- and on a table opened the same
alone_on_table : map short (table_answers document01 (table_at document01 pool 0) (alone 5)) ≡ 100 ∷ 100 ∷ 200 ∷ 400 ∷ []
alone_on_table = ap (map short) ((document01_whole_run pool).alone 0 (lit< tt) 5) ∙ among_others

-- and the decision
abbrev entered_5 : Decided
entered_5 = record { note = note_5; decision = entered }

decided_5 : find decided_id 5 (ledger_at document01 pool 0).decided ≡ some entered_5
unfolding everything calls ones twos
decided_5 = refl

alone_decided : find decided_id 5 (run_ledger document01 (opened_at document01 pool 0) empty (alone 5)).decided ≡ some entered_5
alone_decided = ((document01_whole_run pool).mixing 0 (lit< tt) 5).verdict ∙ decided_5

-- ---- the first eight calls: eight wait, which is the most that may
abbrev begun : ℕ → List Call
begun i = take 8 (calls i)

is_begun : is_pool document01 2 sheet 9 7 (λ i. lent 55 88) begun ≡ true
unfolding everything is_pool opens_at bytes_call calls ones twos
is_begun = refl

abbrev begun_pool : Pool document01
begun_pool = pool_of document01 2 sheet 9 7 (λ i. lent 55 88) begun is_begun

eight_wait_lem : length (waiting (ledger_at document01 begun_pool 0).progress) ≡ most_waiting
unfolding everything calls ones twos
eight_wait_lem = refl

at_most : length (waiting (ledger_at document01 begun_pool 0).progress) ≤ most_waiting
at_most = (document01_whole_run begun_pool).at_most_eight 0 (lit< tt)

-- ---- the ninth return is handed in while others wait at both servers, and is handled to its end among them
abbrev early : ℕ → List Call
early zero = take 21 (calls 0)
early (suc i) = take 14 (calls 1)

is_early : is_pool document01 2 sheet 9 7 (λ i. lent 55 88) early ≡ true
unfolding everything is_pool opens_at bytes_call calls ones twos
is_early = refl

abbrev early_pool : Pool document01
early_pool = pool_of document01 2 sheet 9 7 (λ i. lent 55 88) early is_early

abbrev messages_9 : ℕ → List ℕ
messages_9 = longs 9 (shares_of 9)

ready_9 : Ready document01 early_pool 9 (shares_of 9) 4 9 messages_9 22 14
unfolding everything is_ready does_bring is_ended calls ones twos
ready_9 = is_ready_lem document01 early_pool 9 messages_9 (shares_of 9) 4 9 22 14 refl

let_in_9 : lets_in document01 (columns_of sheet) 2 (λ j e. get_or (shares_of 9 j) e 0) 4 9 ≡ true
unfolding everything
let_in_9 = refl

-- the messages of round one arrived in another order than the servers'
abbrev ones_9 : List (List ℕ)
ones_9 =
    map (λ i. message_one document01 (opened_at document01 early_pool i) (first_wait document01 early_pool 9 (shares_of 9) 4 9 i)) (1 ∷ 0 ∷ [])

abbrev twos_9 : List (List ℕ)
twos_9 = seconds document01 early_pool 9 (shares_of 9) 4 9

turned_9 : Rearranged ones_9 (firsts document01 early_pool 9 (shares_of 9) 4 9)
unfolding count_from
turned_9 = swap _ _ []

abbrev rounds_9 : List Call
rounds_9 = both_rounds 9 ones_9 twos_9 14

-- up to its verdict at server 0
abbrev until_verdict : List Call
until_verdict = take 7 (drop 22 (calls 0))

up_to_0 : those (on 9) until_verdict ≡ rounds_9
unfolding everything calls ones twos
up_to_0 = refl

among_0 : those (on 9) (drop 22 (calls 0)) ≡ rounds_9 ++ (enter 9 ∷ [])
unfolding everything calls ones twos
among_0 = refl

among_1 : those (on 9) (drop 15 (calls 1)) ≡ rounds_9 ++ (enter 9 ∷ [])
unfolding everything calls ones twos
among_1 = refl

-- the answers of each server to the calls on it, in short
abbrev answers_9 : (i : ℕ) → List Call → List ℕ
answers_9 i more =
    map short (answers_to document01 (opened_at document01 early_pool i) 9 (ledger_at document01 early_pool i) (takes 9 i ∷ more))

judged_9 : answers_9 0 until_verdict ≡ 100 ∷ 100 ∷ 200 ∷ []
unfolding short
judged_9 =
    ap (map short) ((document01_whole_run early_pool).handled_mixed 9 messages_9 (shares_of 9) 4 9 22 14 ready_9 0 (lit< tt) ones_9 twos_9
    turned_9 (rearranged_refl twos_9) until_verdict up_to_0)
    ∙ ap (λ (b : Bool). 100 ∷ 100 ∷ cond b 200 300 ∷ []) let_in_9

entered_9 : (i : ℕ) → i < 2 → (more : List Call) → those (on 9) more ≡ rounds_9 ++ (enter 9 ∷ [])
    → answers_9 i more ≡ 100 ∷ 100 ∷ 200 ∷ 400 ∷ []
unfolding short
entered_9 i l more among =
    ap (map short) ((document01_whole_run early_pool).handled_entered 9 messages_9 (shares_of 9) 4 9 22 14 ready_9 let_in_9 i l ones_9 twos_9
    turned_9 (rearranged_refl twos_9) more among)

entered_9_0 : answers_9 0 (drop 22 (calls 0)) ≡ 100 ∷ 100 ∷ 200 ∷ 400 ∷ []
entered_9_0 = entered_9 0 (lit< tt) (drop 22 (calls 0)) among_0

entered_9_1 : answers_9 1 (drop 15 (calls 1)) ≡ 100 ∷ 100 ∷ 200 ∷ 400 ∷ []
entered_9_1 = entered_9 1 (lit< tt) (drop 15 (calls 1)) among_1
