-- A whole run of three servers with the sheet 17, 18 3, 19 2 and Q = 2: two honest returns are entered; an altered one is rejected at
-- two servers and dropped at the third before its verdict; an id is dropped at one server alone. antt computes it. It meets
-- the conditions, so what demand 3 says of it holds. Assumes nothing.
use mathlib.Core.Path.{◌≡◌, refl, subst}
use mathlib.Core.Logic.{inl, inr}
use mathlib.Core.Bool.{true, cond}
use mathlib.Core.List.{List, [], ◌∷◌, ◌++◌, map}
use Prim.Native.Nat.{ℕ, zero, suc, ◌+◌, ◌*◌, ◌%◌}
use lib.Dec.{eqb, lit<}
use lib.ListN.{get_or, set}
use Rattle.algebra.specs.Lists.{In, tabulate}
use Rattle.rules.specs.Settings.{document01}
use Rattle.rules.specs.Columns.{yes_no, choice, number, columns_of}
use Rattle.rules.specs.Making.{made_share}
use Rattle.rules.specs.Ledger.{Call, round_one, round_two, enter, drop, close}
use Rattle.rules.specs.Pools.{Pool, answers_at, entered_at, Conditions, AllClosed}
use Rattle.rules.specs.WholeRun.{closings, Closed}
use Rattle.rules.specs.Made.{MadeOf, joined_totals, how_many, EncodedTotals}
use Rattle.rules.proofs.Computed.Computing.{everything}
use Rattle.rules.proofs.Computed.Facts.{document01_facts}
use Rattle.runs.proofs.Tests.{bytes_call, opens_at, is_pool, pool_of, has_written, meets, meets_conditions}
use Rattle.runs.proofs.Tests.{is_ended, all_ended, all_closed, is_whole, made_of}
use Rattle.rules.proofs.Runs.WholeTotals.{closed_together}
use Rattle.rules.proofs.Runs.MadeRuns.{document01_made_run}
use Rattle.runs.proofs.TwoServers.{ones, twos, give, short, join_result, lent}

abbrev sheet : List ℕ
sheet = 17 ∷ 18 ∷ 3 ∷ 19 ∷ 2 ∷ []

-- 54 random elements
abbrev random : ℕ → List ℕ
random seed = tabulate (λ k. (k * 1234567891 + seed) % 2147483647) 54

abbrev made : List ℕ → ℕ → ℕ → List ℕ
made values seed = made_share document01 (columns_of sheet) 3 values (random seed)

-- two honest returns, and one whose first entry was altered at server 2
abbrev first : ℕ → List ℕ
first = made (1 ∷ 2 ∷ 3 ∷ []) 987654321

abbrev second : ℕ → List ℕ
second = made (0 ∷ 2 ∷ 1 ∷ []) 192837465

abbrev altered : ℕ → List ℕ
altered i = cond (eqb i 2) (set (second 2) 0 12) (second i)

-- as messages arrive at server i: the own one first, and in round two last
abbrev own_first : ℕ → List ℕ
own_first i = i ∷ ((i + 1) % 3) ∷ ((i + 2) % 3) ∷ []

abbrev own_last : ℕ → List ℕ
own_last i = ((i + 2) % 3) ∷ ((i + 1) % 3) ∷ i ∷ []

-- a share, both rounds and the entry, which is refused where the return is rejected
abbrev through : ℕ → (ℕ → List ℕ) → ℕ → List Call
through id shares i =
    give id shares 7 5 i
    ∷ round_one id (ones 3 sheet 4 (own_first i) id shares 7 5) 14
    ∷ round_two id (twos 3 sheet 4 (own_last i) id shares 7 5)
    ∷ enter id
    ∷ []

unfoldable pub calls : ℕ → List Call
calls zero = through 1 first 0 ++ through 2 altered 0 ++ through 3 second 0 ++ (close 26 ∷ [])
calls (suc zero) =
    through 1 first 1
    ++ (give 2 altered 7 5 1 ∷ round_one 2 (ones 3 sheet 4 (own_first 1) 2 altered 7 5) 14 ∷ drop 2 ∷ [])
    ++ through 3 second 1
    ++ (close 26 ∷ [])
calls (suc (suc i)) =
    (give 9 second 7 5 2 ∷ drop 9 ∷ [])
    ++ through 1 first 2
    -- refused: one is entered, and Q = 2
    ++ (close 26 ∷ [])
    ++ through 2 altered 2
    ++ through 3 second 2
    ++ (close 25 ∷ close 26 ∷ [])

pub is_pool_lem : is_pool document01 3 sheet 4 2 (λ i. lent 55 216) calls ≡ true
unfolding everything is_pool opens_at bytes_call calls ones twos
is_pool_lem = refl

abbrev pub pool : Pool document01
pool = pool_of document01 3 sheet 4 2 (λ i. lent 55 216) calls is_pool_lem

answers_0 : map short (answers_at document01 pool 0)
    ≡ 100 ∷ 100 ∷ 200 ∷ 400 ∷ 100 ∷ 100 ∷ 300 ∷ 11 ∷ 100 ∷ 100 ∷ 200 ∷ 400 ∷ 100 ∷ []
unfolding everything short calls ones twos
answers_0 = refl

answers_1 : map short (answers_at document01 pool 1)
    ≡ 100 ∷ 100 ∷ 200 ∷ 400 ∷ 100 ∷ 100 ∷ 400 ∷ 100 ∷ 100 ∷ 200 ∷ 400 ∷ 100 ∷ []
unfolding everything short calls ones twos
answers_1 = refl

answers_2 : map short (answers_at document01 pool 2)
    ≡ 100 ∷ 400 ∷ 100 ∷ 100 ∷ 200 ∷ 400 ∷ 15 ∷ 100 ∷ 100 ∷ 300 ∷ 11 ∷ 100 ∷ 100 ∷ 200 ∷ 400 ∷ 14 ∷ 100 ∷ []
unfolding everything short calls ones twos
answers_2 = refl

pub meets_them : Conditions document01 pool
unfolding everything meets has_written calls ones twos
meets_them = meets_conditions document01 pool refl

pub ended : AllClosed document01 pool
unfolding everything all_ended is_ended calls ones twos
ended = all_closed document01 pool refl

-- what is promised of it
pub joined : Closed document01 pool
joined = closed_together document01 document01_facts pool meets_them ended

-- and what comes of it: 1 and 3 are entered; one yes, the last option twice, and 3 + 1
entered_ids : entered_at document01 pool 2 ≡ 1 ∷ 3 ∷ []
unfolding everything calls ones twos
entered_ids = refl

join_is : join_result 3 sheet 4 (closings document01 pool) ≡ 0 ∷ 2 ∷ 1 ∷ 0 ∷ 0 ∷ 2 ∷ 4 ∷ []
unfolding everything join_result calls ones twos
join_is = refl

-- both entered returns are delivered whole, so the totals are those of their values
made_1 : MadeOf document01 pool 1 (1 ∷ 2 ∷ 3 ∷ [])
unfolding everything is_whole calls ones twos
made_1 = made_of document01 pool 1 (1 ∷ 2 ∷ 3 ∷ []) (random 987654321) refl

made_3 : MadeOf document01 pool 3 (0 ∷ 2 ∷ 1 ∷ [])
unfolding everything is_whole calls ones twos
made_3 = made_of document01 pool 3 (0 ∷ 2 ∷ 1 ∷ []) (random 192837465) refl

abbrev values : ℕ → List ℕ
values id = cond (eqb id 1) (1 ∷ 2 ∷ 3 ∷ []) (0 ∷ 2 ∷ 1 ∷ [])

each_made : (id : ℕ) → In id (entered_at document01 pool 2) → MadeOf document01 pool id (values id)
each_made id h = go (subst (In id) entered_ids h)
  where
    go : In id (1 ∷ 3 ∷ []) → MadeOf document01 pool id (values id)
    go (inl e) = subst (λ (k : ℕ). MadeOf document01 pool k (values k)) e made_1
    go (inr (inl e)) = subst (λ (k : ℕ). MadeOf document01 pool k (values k)) e made_3
    go (inr (inr k)) = absurd k

pub told : EncodedTotals document01 pool (entered_at document01 pool 2) values
told = (document01_made_run pool).totals meets_them ended 2 (lit< tt) values each_made

-- one says yes; two chose the last option; the numbers add up to 4
yes_told : get_or (joined_totals document01 pool) 0 0 ≡ 1
unfolding everything how_many calls ones twos
yes_told = told.yes_total [] (choice 3 ∷ number 2 ∷ []) refl

option_told : get_or (joined_totals document01 pool) 3 0 ≡ 2
unfolding everything how_many calls ones twos
option_told = told.option_total (yes_no ∷ []) (number 2 ∷ []) 3 2 refl (lit< tt)

number_told : get_or (joined_totals document01 pool) 4 0 ≡ 4
unfolding everything calls ones twos
number_told = told.number_total (yes_no ∷ choice 3 ∷ []) [] 2 refl
