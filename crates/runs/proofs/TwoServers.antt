-- A whole run of two servers with the sheet 17: an honest return is accepted and entered, a false one rejected, one dropped, and calls
-- are refused in between; antt computes it. It meets the conditions, so what demand 3 says of it holds. Assumes nothing.
use mathlib.Core.Path.{◌≡◌, refl}
use mathlib.Core.Bool.{true, cond}
use mathlib.Core.List.{List, [], ◌∷◌, ◌++◌, map, flatten}
use Prim.Native.Nat.{ℕ, ◌+◌, ◌-◌}
use lib.ListN.{get_or, set, take, replicate}
use Rattle.algebra.specs.Lists.{tabulate, count_from}
use Rattle.algebra.specs.Modulo.{modulo}
use Rattle.rules.specs.Settings.{document01}
use Rattle.rules.specs.Columns.{columns_of}
use Rattle.rules.specs.Making.{share_of, made_share, share_message}
use Rattle.rules.specs.Server.{Opened, Waiting, waiting_of, message_one, message_two, summed}
use Rattle.rules.specs.WaitingList.{free_list}
use Rattle.rules.specs.Table.{Lent}
use Rattle.rules.specs.Joining.{join_refusal, join_count, join_totals}
use Rattle.rules.specs.Ledger.{Call, share, round_one, round_two, enter, drop, close, Answer, refused, wrote, judged, done}
use Rattle.rules.specs.Pools.{Pool, answers_at, entered_at, dropped_at, Conditions, AllClosed}
use Rattle.rules.specs.WholeRun.{closings, Closed}
use Rattle.rules.proofs.Computed.Computing.{everything}
use Rattle.rules.proofs.Computed.Facts.{document01_facts}
use Rattle.runs.proofs.Tests.{bytes_call, opens_at, is_pool, pool_of, has_written, meets, meets_conditions}
use Rattle.runs.proofs.Tests.{is_ended, all_ended, all_closed}
use Rattle.rules.proofs.Runs.WholeTotals.{closed_together}

-- ---- the messages of a return, for servers opened alike
module _ (servers : ℕ) (sheet : List ℕ) (returns : ℕ) where
  -- (no message depends on Q)
  abbrev pub opened_as : ℕ → Opened
  opened_as i = record { servers = servers; own = i; columns = columns_of sheet; returns = returns; least = 1 }

  abbrev pub taken : ℕ → (ℕ → List ℕ) → ℕ → ℕ → ℕ → Waiting
  taken id shares r s i = waiting_of document01 (opened_as i) id (shares i) r s

  -- joined as they arrived, from these servers in this order
  unfoldable pub ones : List ℕ → ℕ → (ℕ → List ℕ) → ℕ → ℕ → List ℕ
  ones order id shares r s = flatten (map (λ i. message_one document01 (opened_as i) (taken id shares r s i)) order)

  unfoldable pub twos : List ℕ → ℕ → (ℕ → List ℕ) → ℕ → ℕ → List ℕ
  twos order id shares r s =
      let joined = ones (count_from 0 servers) id shares r s in
      flatten (map (λ i. message_two document01 (opened_as i) (summed document01 (opened_as i) (taken id shares r s i) joined)) order)

-- the long message with each server's share
abbrev pub longs : ℕ → (ℕ → List ℕ) → ℕ → List ℕ
longs id shares i = share_message document01 id i (shares i)

abbrev pub give : ℕ → (ℕ → List ℕ) → ℕ → ℕ → ℕ → Call
give id shares r s i = share (longs id shares i) r s 22

-- the answers in short: a refusal's number; 100 for a message; 200 for accepted, 300 for rejected; 400 for an entry or a drop
unfoldable pub short : Answer → ℕ
short (refused n) = n
short (wrote m) = 100
short (judged b) = cond b 200 300
short done = 400

-- what joining says: refusal, count, totals
unfoldable pub join_result : ℕ → List ℕ → ℕ → List ℕ → List ℕ
join_result servers sheet returns messages =
    join_refusal document01 servers sheet returns messages 1000
    ∷ join_count messages
    ∷ join_totals document01 servers sheet messages

-- three buffers with room for so many bytes and numbers, and for the waiting list
abbrev pub lent : ℕ → ℕ → Lent
lent bytes numbers = record { bytes = replicate bytes 0; slots = free_list; elements = replicate numbers 0 }

-- ---- two servers, the sheet 17, at most three returns
abbrev pub sheet : List ℕ
sheet = 17 ∷ []

-- u_0, v_0, a, b, and server 1's share
abbrev pub random : List ℕ
random =
    2 ∷ 3 ∷ 5 ∷ 7 ∷ 10 ∷ 2000 ∷ 300000 ∷ 40000000 ∷ 2147483646 ∷ 60 ∷ 7 ∷ 888888888 ∷ 99 ∷ []

-- yes; and the false entry 2
abbrev pub honest : ℕ → List ℕ
honest = made_share document01 (columns_of sheet) 2 (1 ∷ []) random

abbrev whole_false : List ℕ
whole_false = 2 ∷ 2 ∷ 3 ∷ 6 ∷ 0 ∷ 2147483645 ∷ 5 ∷ 7 ∷ 35 ∷ []

abbrev pub false_return : ℕ → List ℕ
false_return i = tabulate (share_of (modulo 2147483647) 2 (λ k. get_or whole_false k 0) (λ j k. get_or random (4 + k) 0) i) 9

-- as messages arrive at server i: the own one first
abbrev own_first : ℕ → List ℕ
own_first i = i ∷ (1 - i) ∷ []

unfoldable pub calls : ℕ → List Call
calls i =
    give 77 honest 4 9 i
    -- refused: a call that the stage does not allow; another id, own message altered, a server twice, cut; no room
    ∷ close 100
    ∷ round_one 77 (ones 2 sheet 3 (own_first i) 78 honest 4 9) 14
    ∷ round_one 77 (ones 2 sheet 3 (own_first i) 77 honest 5 9) 14
    ∷ round_one 77 (ones 2 sheet 3 (i ∷ i ∷ []) 77 honest 4 9) 14
    ∷ round_one 77 (take 43 (ones 2 sheet 3 (own_first i) 77 honest 4 9)) 14
    ∷ round_one 77 (ones 2 sheet 3 (own_first i) 77 honest 4 9) 13
    ∷ round_one 77 (ones 2 sheet 3 (own_first i) 77 honest 4 9) 14
    ∷ round_two 77 (ones 2 sheet 3 (own_first i) 77 honest 4 9)
    -- refused: no verdict yet; then a close while one waits for entry; entered twice
    ∷ enter 77
    ∷ round_two 77 (twos 2 sheet 3 (own_first i) 77 honest 4 9)
    ∷ close 10
    ∷ enter 77
    ∷ enter 77
    -- refused: another server's share, an element p, an id decided, r = M
    ∷ share (share_message document01 78 (1 - i) (false_return i)) 3 9 22
    ∷ share (share_message document01 78 i (set (false_return i) 0 2147483647)) 3 9 22
    ∷ give 77 honest 4 9 i
    ∷ give 78 false_return 1 9 i
    ∷ give 78 false_return 3 9 i
    ∷ round_one 78 (ones 2 sheet 3 (own_first i) 78 false_return 3 9) 14
    ∷ round_two 78 (twos 2 sheet 3 (own_first i) 78 false_return 3 9)
    -- refused: it is rejected
    ∷ enter 78
    ∷ give 79 honest 4 9 i
    ∷ drop 79
    -- refused: three returns are decided; no room; closed
    ∷ give 80 honest 4 9 i
    ∷ close 9
    ∷ close 10
    ∷ close 10
    ∷ []

pub is_pool_lem : is_pool document01 2 sheet 3 1 (λ i. lent 31 88) calls ≡ true
unfolding everything is_pool opens_at bytes_call calls ones twos
is_pool_lem = refl

abbrev pub pool : Pool document01
pool = pool_of document01 2 sheet 3 1 (λ i. lent 31 88) calls is_pool_lem

answers : map short (answers_at document01 pool 1)
    ≡ (100 ∷ 11 ∷ 12 ∷ 12 ∷ 12 ∷ 12 ∷ 14 ∷ 100 ∷ 12 ∷ 11 ∷ 200 ∷ 11 ∷ 400 ∷ 11 ∷ [])
    ++ (7 ∷ 8 ∷ 10 ∷ 9 ∷ 100 ∷ 100 ∷ 300 ∷ 11 ∷ 100 ∷ 400 ∷ 13 ∷ 14 ∷ 100 ∷ 11 ∷ [])
unfolding everything short calls ones twos
answers = refl

pub meets_them : Conditions document01 pool
unfolding everything meets has_written calls ones twos
meets_them = meets_conditions document01 pool refl

pub ended : AllClosed document01 pool
unfolding everything all_ended is_ended calls ones twos
ended = all_closed document01 pool refl

-- what is promised of it
pub joined : Closed document01 pool
joined = closed_together document01 document01_facts pool meets_them ended

-- and what comes of it: 77 is entered, 79 dropped, and the one total is 1
entered_ids : entered_at document01 pool 1 ≡ 77 ∷ []
unfolding everything calls ones twos
entered_ids = refl

dropped_ids : dropped_at document01 pool 0 ≡ 79 ∷ []
unfolding everything calls ones twos
dropped_ids = refl

join_is : join_result 2 sheet 3 (closings document01 pool) ≡ 0 ∷ 1 ∷ 1 ∷ []
unfolding everything join_result calls ones twos
join_is = refl
