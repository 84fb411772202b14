-- A whole run of three servers with the sheet 17: a return made from seeds, of which server 1 gets its seed and server 2 the long message
-- with the elements of its own, is accepted and entered; messages of the wrong kind or length are refused. antt computes it. It meets the
-- conditions, so what demand 3 says of it holds. Assumes nothing.
use mathlib.Core.Path.{◌≡◌, refl}
use mathlib.Core.Bool.{true}
use mathlib.Core.List.{List, [], ◌∷◌, ◌++◌, map}
use Prim.Native.Nat.{ℕ, zero, suc, ◌+◌, ◌%◌}
use lib.ListN.{set}
use Rattle.algebra.specs.Lists.{count_from}
use Rattle.words.specs.Bytes.{bytes_of_all}
use Rattle.rules.specs.Settings.{document01}
use Rattle.rules.specs.Columns.{columns_of}
use Rattle.rules.specs.Making.{made_share}
use Rattle.rules.specs.Seeds.{seed_message, seed_at, seed_elements}
use Rattle.rules.specs.Ledger.{Call, share, round_one, round_two, enter, close}
use Rattle.rules.specs.Runs.{table_answers}
use Rattle.rules.specs.Pools.{Pool, table_at, answers_at, entered_at, Conditions, AllClosed}
use Rattle.rules.specs.WholeRun.{closings, Closed}
use Rattle.rules.proofs.Computed.Computing.{everything}
use Rattle.rules.proofs.Computed.Facts.{document01_facts}
use Rattle.rules.proofs.Runs.WholeTotals.{closed_together}
use Rattle.runs.proofs.Tests.{bytes_call, opens_at, is_pool, pool_of, has_written, meets, meets_conditions}
use Rattle.runs.proofs.Tests.{is_ended, all_ended, all_closed}
use Rattle.runs.proofs.TwoServers.{ones, twos, longs, short, join_result, lent, sheet}

-- ---- yes; u_0, v_0, a and b; and the seeds of servers 1 and 2
abbrev pub value_bytes : List ℕ
value_bytes = bytes_of_all 4 (1 ∷ [])

abbrev pub random_bytes : List ℕ
random_bytes = bytes_of_all 4 (2 ∷ 3 ∷ 5 ∷ 7 ∷ [])

abbrev pub seeds : List ℕ
seeds = count_from 0 64

-- the shares that the seeds stand for under the id 1
abbrev pub share_1 : List ℕ
share_1 =
    167459032 ∷ 976121427 ∷ 1072883728 ∷ 645096008 ∷ 1725448863 ∷ 1837225792 ∷ 1014596835 ∷ 1680196404 ∷ 1700873212 ∷ []

abbrev pub share_2 : List ℕ
share_2 = 660579718 ∷ 486781721 ∷ 991264455 ∷ 1850139214 ∷ 771147743 ∷ 2084024545 ∷ 832140497 ∷ 8737721 ∷ 158908037 ∷ []

drawn_1 : seed_elements document01 (seed_at seeds 0) 1 9 ≡ share_1
unfolding everything
drawn_1 = refl

drawn_2 : seed_elements document01 (seed_at seeds 1) 1 9 ≡ share_2
unfolding everything
drawn_2 = refl

abbrev pub shares : ℕ → List ℕ
shares = made_share document01 (columns_of sheet) 3 (1 ∷ []) (2 ∷ 3 ∷ 5 ∷ 7 ∷ share_1 ++ share_2)

-- the message for each server
unfoldable pub messages : ℕ → List ℕ
messages zero = longs 1 shares 0
messages (suc zero) = seed_message 1 1 (count_from 0 32)
messages (suc (suc i)) = longs 1 shares 2

-- ---- the run. Refused first: at server 0 a seed; at server 1 a seed one byte short or long, and another server's; at server 2 a long
-- message with the kind byte of a seed, and a seed with that of a long one
unfoldable pub wrong : ℕ → List (List ℕ)
wrong zero = seed_message 2 0 (count_from 0 32) ∷ []
wrong (suc zero) = seed_message 2 1 (count_from 0 31) ∷ seed_message 2 1 (count_from 0 33) ∷ seed_message 2 2 (count_from 0 32) ∷ []
wrong (suc (suc i)) = set (longs 2 shares 2) 0 38 ∷ set (seed_message 2 2 (count_from 0 32)) 0 33 ∷ []

abbrev pub begun : ℕ → List Call
begun i = map (λ m. share m 4 9 22) (wrong i)

-- as messages arrive at server i: the own one first
abbrev own_first : ℕ → List ℕ
own_first i = i ∷ ((i + 1) % 3) ∷ ((i + 2) % 3) ∷ []

abbrev pub rest : ℕ → List Call
rest i =
    round_one 1 (ones 3 sheet 3 (own_first i) 1 shares 4 9) 14
    ∷ round_two 1 (twos 3 sheet 3 (own_first i) 1 shares 4 9)
    ∷ enter 1
    ∷ close 10
    ∷ []

unfoldable pub calls : ℕ → List Call
calls i = begun i ++ (share (messages i) 4 9 22 ∷ rest i)

pub is_pool_lem : is_pool document01 3 sheet 3 1 (λ i. lent 31 88) calls ≡ true
unfolding everything is_pool opens_at bytes_call calls messages wrong ones twos
is_pool_lem = refl

abbrev pub pool : Pool document01
pool = pool_of document01 3 sheet 3 1 (λ i. lent 31 88) calls is_pool_lem

answers_0 : map short (answers_at document01 pool 0) ≡ 7 ∷ 100 ∷ 100 ∷ 200 ∷ 400 ∷ 100 ∷ []
unfolding everything short calls messages wrong ones twos
answers_0 = refl

answers_1 : map short (answers_at document01 pool 1) ≡ 7 ∷ 7 ∷ 7 ∷ 100 ∷ 100 ∷ 200 ∷ 400 ∷ 100 ∷ []
unfolding everything short calls messages wrong ones twos
answers_1 = refl

table_answers_1 : map short (table_answers document01 (table_at document01 pool 1) (calls 1))
    ≡ 7 ∷ 7 ∷ 7 ∷ 100 ∷ 100 ∷ 200 ∷ 400 ∷ 100 ∷ []
unfolding everything short calls messages wrong ones twos
table_answers_1 = refl

answers_2 : map short (answers_at document01 pool 2) ≡ 7 ∷ 7 ∷ 100 ∷ 100 ∷ 200 ∷ 400 ∷ 100 ∷ []
unfolding everything short calls messages wrong ones twos
answers_2 = refl

pub meets_them : Conditions document01 pool
unfolding everything meets has_written calls messages wrong ones twos
meets_them = meets_conditions document01 pool refl

pub ended : AllClosed document01 pool
unfolding everything all_ended is_ended calls messages wrong ones twos
ended = all_closed document01 pool refl

-- the one return is entered, and its yes is the total
entered_ids : entered_at document01 pool 1 ≡ 1 ∷ []
unfolding everything calls messages wrong ones twos
entered_ids = refl

join_is : join_result 3 sheet 3 (closings document01 pool) ≡ 0 ∷ 1 ∷ 1 ∷ []
unfolding everything join_result calls messages wrong ones twos
join_is = refl

-- what is promised of it
pub joined : Closed document01 pool
joined = closed_together document01 document01_facts pool meets_them ended
