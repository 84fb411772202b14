-- A whole run of two servers with the sheet 17 and N = 9, where up to eight returns wait at once and their calls are mixed, in
-- another order at each server: seven returns are entered, the fifth before the first, one is rejected, one dropped. antt
-- computes it. It meets the conditions, so what demand 3 says of it holds. Assumes nothing.
use mathlib.Core.Path.{◌≡◌, refl}
use mathlib.Core.Bool.{true, cond}
use mathlib.Core.List.{List, [], ◌∷◌, ◌++◌, map}
use Prim.Native.Nat.{ℕ, zero, suc}
use lib.Dec.{eqb, ltb}
use lib.ListN.{replicate}
use Rattle.rules.specs.Settings.{document01}
use Rattle.rules.specs.Columns.{columns_of}
use Rattle.rules.specs.Making.{made_share}
use Rattle.rules.specs.WaitingList.{free_list}
use Rattle.rules.specs.Ledger.{Call, round_one, round_two, enter, drop, close}
use Rattle.rules.specs.Runs.{run_table, table_answers}
use Rattle.rules.specs.Pools.{Pool, table_at, answers_at, entered_at, dropped_at, Conditions, AllClosed}
use Rattle.rules.specs.WholeRun.{closings, Closed}
use Rattle.rules.proofs.Computed.Computing.{everything}
use Rattle.rules.proofs.Computed.Facts.{document01_facts}
use Rattle.rules.proofs.Runs.WholeTotals.{closed_together}
use Rattle.runs.proofs.Tests.{bytes_call, opens_at, is_pool, pool_of, has_written, meets, meets_conditions}
use Rattle.runs.proofs.Tests.{is_ended, all_ended, all_closed}
use Rattle.runs.proofs.TwoServers.{ones, twos, give, short, join_result, lent, sheet, random, honest, false_return}

-- ---- the returns 1 to 9: the sixth is false, those after it say no, the others yes
abbrev no_return : ℕ → List ℕ
no_return = made_share document01 (columns_of sheet) 2 (0 ∷ []) random

abbrev pub shares_of : ℕ → ℕ → List ℕ
shares_of id = cond (eqb id 6) false_return (cond (ltb 6 id) no_return honest)

abbrev pub r_of : ℕ → ℕ
r_of id = cond (eqb id 6) 3 4

abbrev pub takes : ℕ → ℕ → Call
takes id i = give id (shares_of id) (r_of id) 9 i

-- server 1's message arrives first in round one, last in round two
abbrev pub one : ℕ → Call
one id = round_one id (ones 2 sheet 9 (1 ∷ 0 ∷ []) id (shares_of id) (r_of id) 9) 14

abbrev pub two : ℕ → Call
two id = round_two id (twos 2 sheet 9 (0 ∷ 1 ∷ []) id (shares_of id) (r_of id) 9)

unfoldable pub calls : ℕ → List Call
calls zero =
    (takes 1 0 ∷ takes 2 0 ∷ takes 3 0 ∷ takes 4 0 ∷ takes 5 0 ∷ takes 6 0 ∷ takes 7 0 ∷ takes 8 0 ∷ [])
    -- refused: a ninth return; a close while any waits; an id not waiting; another stage; messages of another id
    ++ (takes 9 0 ∷ close 100 ∷ drop 9 ∷ two 5 ∷ round_one 5 (ones 2 sheet 9 (0 ∷ 1 ∷ []) 3 honest 4 9) 14 ∷ [])
    ++ (one 5 ∷ one 1 ∷ one 5 ∷ two 5 ∷ drop 4 ∷ enter 5 ∷ [])
    -- refused: an id that waits; one that is decided; and, with the ninth, decided and waiting have reached N
    ++ (takes 1 0 ∷ takes 5 0 ∷ takes 9 0 ∷ takes 10 0 ∷ [])
    ++ (one 6 ∷ one 9 ∷ two 6 ∷ one 2 ∷ one 3 ∷ two 9 ∷ two 1 ∷ enter 1 ∷ two 3 ∷ one 8 ∷ two 2 ∷ enter 9 ∷ one 7 ∷ two 8 ∷ two 7 ∷ [])
    -- refused: one waits for entry; entered twice; rejected
    ++ (enter 3 ∷ enter 2 ∷ enter 8 ∷ close 10 ∷ enter 8 ∷ enter 6 ∷ enter 7 ∷ close 10 ∷ [])
calls (suc i) =
    (takes 8 1 ∷ takes 7 1 ∷ takes 6 1 ∷ takes 5 1 ∷ takes 4 1 ∷ takes 3 1 ∷ takes 2 1 ∷ takes 1 1 ∷ [])
    ++ (one 4 ∷ one 1 ∷ one 2 ∷ one 3 ∷ two 1 ∷ enter 1 ∷ takes 9 1 ∷ one 5 ∷ one 6 ∷ one 7 ∷ one 8 ∷ one 9 ∷ [])
    ++ (two 9 ∷ two 8 ∷ drop 4 ∷ two 7 ∷ two 6 ∷ two 5 ∷ two 3 ∷ close 10 ∷ two 2 ∷ [])
    ++ (enter 2 ∷ enter 3 ∷ enter 5 ∷ enter 7 ∷ enter 8 ∷ enter 9 ∷ close 10 ∷ [])

pub is_pool_lem : is_pool document01 2 sheet 9 7 (λ i. lent 55 88) calls ≡ true
unfolding everything is_pool opens_at bytes_call calls ones twos
is_pool_lem = refl

abbrev pub pool : Pool document01
pool = pool_of document01 2 sheet 9 7 (λ i. lent 55 88) calls is_pool_lem

-- the answers of server 0 in short: by the ledger, and by the table, which is left with nothing that waits
abbrev answered : List ℕ
answered =
    (100 ∷ 100 ∷ 100 ∷ 100 ∷ 100 ∷ 100 ∷ 100 ∷ 100 ∷ [])
    ++ (11 ∷ 11 ∷ 11 ∷ 11 ∷ 12 ∷ [])
    ++ (100 ∷ 100 ∷ 11 ∷ 200 ∷ 400 ∷ 400 ∷ [])
    ++ (10 ∷ 10 ∷ 100 ∷ 13 ∷ [])
    ++ (100 ∷ 100 ∷ 300 ∷ 100 ∷ 100 ∷ 200 ∷ 200 ∷ 400 ∷ 200 ∷ 100 ∷ 200 ∷ 400 ∷ 100 ∷ 200 ∷ 200 ∷ [])
    ++ (400 ∷ 400 ∷ 400 ∷ 11 ∷ 11 ∷ 11 ∷ 400 ∷ 100 ∷ [])

answers_0 : map short (answers_at document01 pool 0) ≡ answered
unfolding everything short calls ones twos
answers_0 = refl

table_answers_0 : map short (table_answers document01 (table_at document01 pool 0) (calls 0)) ≡ answered
unfolding everything short calls ones twos
table_answers_0 = refl

none_left : (run_table document01 (table_at document01 pool 0) (calls 0)).slots ≡ free_list
unfolding everything calls ones twos
none_left = refl

numbers_left : (run_table document01 (table_at document01 pool 0) (calls 0)).elements ≡ replicate 88 0
unfolding everything calls ones twos
numbers_left = refl

answers_1 : map short (answers_at document01 pool 1)
    ≡ (100 ∷ 100 ∷ 100 ∷ 100 ∷ 100 ∷ 100 ∷ 100 ∷ 100 ∷ [])
    ++ (100 ∷ 100 ∷ 100 ∷ 100 ∷ 200 ∷ 400 ∷ 100 ∷ 100 ∷ 100 ∷ 100 ∷ 100 ∷ 100 ∷ [])
    ++ (200 ∷ 200 ∷ 400 ∷ 200 ∷ 300 ∷ 200 ∷ 200 ∷ 11 ∷ 200 ∷ [])
    ++ (400 ∷ 400 ∷ 400 ∷ 400 ∷ 400 ∷ 400 ∷ 100 ∷ [])
unfolding everything short calls ones twos
answers_1 = refl

pub meets_them : Conditions document01 pool
unfolding everything meets has_written calls ones twos
meets_them = meets_conditions document01 pool refl

pub ended : AllClosed document01 pool
unfolding everything all_ended is_ended calls ones twos
ended = all_closed document01 pool refl

-- what is promised of it
pub joined : Closed document01 pool
joined = closed_together document01 document01_facts pool meets_them ended

-- and what comes of it: the ids in the order of the entries at each server, and four of seven say yes
entered_0 : entered_at document01 pool 0 ≡ 5 ∷ 1 ∷ 9 ∷ 3 ∷ 2 ∷ 8 ∷ 7 ∷ []
unfolding everything calls ones twos
entered_0 = refl

entered_1 : entered_at document01 pool 1 ≡ 1 ∷ 2 ∷ 3 ∷ 5 ∷ 7 ∷ 8 ∷ 9 ∷ []
unfolding everything calls ones twos
entered_1 = refl

dropped_ids : dropped_at document01 pool 1 ≡ 4 ∷ []
unfolding everything calls ones twos
dropped_ids = refl

join_is : join_result 2 sheet 9 (closings document01 pool) ≡ 0 ∷ 7 ∷ 4 ∷ []
unfolding everything join_result calls ones twos
join_is = refl
