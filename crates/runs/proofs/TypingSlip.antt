-- A whole run of two servers with the sheet 17, where one keeper typed another r: both servers refuse round one 16 and drop the
-- return. Made anew with new random elements, under another id and with another pair, the same at both, it is entered. antt computes
-- it, and what demand 3 says of unequal challenges is applied, while the return waits and after it was dropped. Assumes nothing.
use mathlib.Core.Path.{◌≡◌, refl}
use mathlib.Core.Logic.{inl}
use mathlib.Core.Bool.{true}
use mathlib.Core.List.{List, [], ◌∷◌, map, flatten}
use Prim.Native.Nat.{ℕ, ◌+◌, ◌<◌}
use native.Mathlib.Omega.{arith}
use lib.Dec.{lit<}
use lib.ListN.{take, drop as skip}
use Rattle.algebra.specs.Lists.{In}
use Rattle.rules.specs.Settings.{document01}
use Rattle.rules.specs.Columns.{columns_of}
use Rattle.rules.specs.Making.{made_share}
use Rattle.rules.specs.Server.{message_one}
use Rattle.rules.specs.Ledger.{Call, round_one, round_two, enter, drop, close, Note, waits_one, note_in, waiting, dropped, Decided, empty}
use Rattle.rules.specs.Ledger.{refusal_of, run_ledger}
use Rattle.rules.specs.Pools.{Pool, opened_at, ledger_at, answers_at, entered_at, dropped_at, notes_at, Conditions, NoVerdict}
use Rattle.rules.proofs.Computed.Computing.{everything}
use Rattle.rules.proofs.Runs.WholeRuns.{document01_whole_run}
use Rattle.runs.proofs.Tests.{bytes_call, opens_at, is_pool, pool_of, has_written, meets, meets_conditions}
use Rattle.runs.proofs.TwoServers.{opened_as, taken, ones, twos, give, short, lent, sheet, honest}

-- server i took the return 77 with r = 4 + i
abbrev typed : ℕ → ℕ
typed i = 4 + i

-- the same value with other random elements
abbrev anew : ℕ → List ℕ
anew =
    made_share document01 (columns_of sheet) 2 (1 ∷ [])
    (11 ∷ 13 ∷ 17 ∷ 19 ∷ 23 ∷ 290 ∷ 3100 ∷ 37000 ∷ 410000 ∷ 4300000 ∷ 47000000 ∷ 530000000 ∷ 1000000007 ∷ [])

unfoldable slipped : List ℕ → List ℕ
slipped order = flatten (map (λ i. message_one document01 (opened_as 2 sheet 3 i) (taken 2 sheet 3 77 honest (typed i) 9 i)) order)

unfoldable calls : ℕ → List Call
calls i =
    give 77 honest (typed i) 9 i
    -- refused: unequal challenges, in either order; a stage that it does not reach; a close while it waits
    ∷ round_one 77 (slipped (0 ∷ 1 ∷ [])) 14
    ∷ round_one 77 (slipped (1 ∷ 0 ∷ [])) 14
    ∷ round_two 77 (twos 2 sheet 3 (0 ∷ 1 ∷ []) 77 honest 4 9)
    ∷ close 10
    -- dropping ends it, and its id is used
    ∷ drop 77
    ∷ give 77 honest 4 9 i
    ∷ give 78 anew 6 8 i
    ∷ round_one 78 (ones 2 sheet 3 (0 ∷ 1 ∷ []) 78 anew 6 8) 14
    ∷ round_two 78 (twos 2 sheet 3 (1 ∷ 0 ∷ []) 78 anew 6 8)
    ∷ enter 78
    ∷ close 10
    ∷ []

is_pool_lem : is_pool document01 2 sheet 3 1 (λ i. lent 31 88) calls ≡ true
unfolding everything is_pool opens_at bytes_call calls slipped ones twos
is_pool_lem = refl

abbrev pool : Pool document01
pool = pool_of document01 2 sheet 3 1 (λ i. lent 31 88) calls is_pool_lem

answers_0 : map short (answers_at document01 pool 0) ≡ 100 ∷ 16 ∷ 16 ∷ 11 ∷ 11 ∷ 400 ∷ 10 ∷ 100 ∷ 100 ∷ 200 ∷ 400 ∷ 100 ∷ []
unfolding everything short calls slipped ones twos
answers_0 = refl

answers_1 : map short (answers_at document01 pool 1) ≡ 100 ∷ 16 ∷ 16 ∷ 11 ∷ 11 ∷ 400 ∷ 10 ∷ 100 ∷ 100 ∷ 200 ∷ 400 ∷ 100 ∷ []
unfolding everything short calls slipped ones twos
answers_1 = refl

entered_ids : entered_at document01 pool 0 ≡ 78 ∷ []
unfolding everything calls slipped ones twos
entered_ids = refl

dropped_ids : dropped_at document01 pool 1 ≡ 77 ∷ []
unfolding everything calls slipped ones twos
dropped_ids = refl

meets_them : Conditions document01 pool
unfolding everything meets has_written calls slipped ones twos
meets_them = meets_conditions document01 pool refl

-- ---- what is promised of it: each premise is met, and the conclusions are what the run shows
abbrev note_at : ℕ → Note
note_at i = record { id = 77; elements = honest i; r = typed i; s = 9 }

noted_0 : In (note_at 0) (notes_at document01 pool 0)
unfolding everything calls slipped ones twos
noted_0 = inl refl

noted_1 : In (note_at 1) (notes_at document01 pool 1)
unfolding everything calls slipped ones twos
noted_1 = inl refl

no_verdict : (q : ℕ) → q < 2 → NoVerdict document01 pool 77 q
no_verdict =
    (document01_whole_run pool).unequal meets_them.unaltered 77 0 1 (lit< tt) (lit< tt) (note_at 0) (note_at 1) noted_0 noted_1 refl refl
    (λ r s. omega arith)

-- its second call, the messages that both wrote, is not taken
abbrev second : Call
second = round_one 77 (slipped (0 ∷ 1 ∷ [])) 14

not_taken : refusal_of document01 (opened_at document01 pool 0)
    (run_ledger document01 (opened_at document01 pool 0) empty (take 1 (calls 0))) second
    ≡ 0 → ⊥
unfolding calls
not_taken = (no_verdict 0 (lit< tt)).refuses (take 1 (calls 0)) (skip 2 (calls 0)) (slipped (0 ∷ 1 ∷ [])) 14 refl

-- what server 1 decided on it is that it is dropped
abbrev ended_77 : Decided
ended_77 = record { note = note_at 1; decision = dropped }

in_77 : In ended_77 (ledger_at document01 pool 1).decided
unfolding everything calls slipped ones twos
in_77 = inl refl

is_dropped_lem : ended_77.decision ≡ dropped
is_dropped_lem = (no_verdict 1 (lit< tt)).only_dropped ended_77 in_77 refl

-- ---- before it is dropped: it waits at both servers
abbrev begun : ℕ → List Call
begun i = take 5 (calls i)

is_begun : is_pool document01 2 sheet 3 1 (λ i. lent 31 88) begun ≡ true
unfolding everything is_pool opens_at bytes_call calls slipped ones twos
is_begun = refl

abbrev begun_pool : Pool document01
begun_pool = pool_of document01 2 sheet 3 1 (λ i. lent 31 88) begun is_begun

meets_begun : Conditions document01 begun_pool
unfolding everything meets has_written calls slipped ones twos
meets_begun = meets_conditions document01 begun_pool refl

begun_0 : In (note_at 0) (notes_at document01 begun_pool 0)
unfolding everything calls slipped ones twos
begun_0 = inl refl

begun_1 : In (note_at 1) (notes_at document01 begun_pool 1)
unfolding everything calls slipped ones twos
begun_1 = inl refl

waits_there : In (waits_one (note_at 1)) (waiting (ledger_at document01 begun_pool 1).progress)
unfolding everything calls slipped ones twos
waits_there = inl refl

-- for round one
waits_one_lem : waits_one (note_at 1) ≡ waits_one (note_in (waits_one (note_at 1)))
waits_one_lem =
    ((document01_whole_run begun_pool).unequal meets_begun.unaltered 77 0 1 (lit< tt) (lit< tt) (note_at 0) (note_at 1) begun_0 begun_1
    refl refl (λ r s. omega arith) 1 (lit< tt)).waits (waits_one (note_at 1)) waits_there refl
