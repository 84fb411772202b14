-- Two servers with the sheet 17, of which the second stopped between verdict and entry: three honest returns are accepted at both; the
-- first is entered at both, the second dropped at both after its verdict, the third entered at the first server, which then closed.
-- antt computes the premises of what is said of servers that go on, and it is applied: the second server enters the third return, and
-- the totals join. Assumes nothing.
use mathlib.Core.Path.{◌≡◌, refl, sym, ap, ◌∙◌, subst}
use mathlib.Core.Logic.{inl, inr}
use mathlib.Core.Bool.{true}
use mathlib.Core.List.{List, [], ◌∷◌, ◌++◌, map}
use Prim.Native.Nat.{ℕ, zero, suc, ◌≤◌, ◌<◌}
use native.Mathlib.Omega.{arith}
use lib.Dec.{lit<}
use lib.ListN.{length, take, drop as skip}
use Rattle.algebra.specs.Lists.{In}
use Rattle.algebra.proofs.Rearrangement.{rearranged_sym, rearranged_length}
use Rattle.rules.specs.Settings.{document01}
use Rattle.rules.specs.Columns.{columns_of}
use Rattle.rules.specs.Judging.{lets_in}
use Rattle.rules.specs.Making.{made_share}
use Rattle.rules.specs.Server.{totals_length}
use Rattle.rules.specs.Joining.{join_count}
use Rattle.rules.specs.Ledger.{Call, round_one, round_two, enter, drop, close}
use Rattle.rules.specs.Pools.{Pool, opened_at, answers_at, accepted_at, entered_at, dropped_at, return_of, Conditions}
use Rattle.rules.specs.Pools.{JudgedToEnd, JudgedByPair, refusal_at}
use Rattle.rules.specs.WholeRun.{closings}
use Rattle.rules.specs.Resumed.{with_calls, to_enter, Stopped, goes_on, Resumed}
use Rattle.rules.proofs.Computed.Computing.{everything}
use Rattle.rules.proofs.Computed.Facts.{document01_facts}
use Rattle.rules.proofs.Runs.WholeRuns.{document01_whole_run}
use Rattle.rules.proofs.Runs.Resuming.{resumes, goes_on_bytes}
use Rattle.runs.proofs.Tests.{bytes_call, opens_at, is_pool, pool_of, has_written, meets, meets_conditions, has_stopped, has_stopped_lem}
use Rattle.runs.proofs.TwoServers.{ones, twos, give, short, join_result, lent, sheet, random, honest}

-- yes, yes and no
abbrev shares_of : ℕ → ℕ → List ℕ
shares_of zero = honest
shares_of (suc zero) = honest
shares_of (suc (suc zero)) = honest
shares_of (suc (suc (suc id))) = made_share document01 (columns_of sheet) 2 (0 ∷ []) random

-- a return up to its verdict
abbrev through : ℕ → ℕ → List Call
through id i =
    give id (shares_of id) 4 9 i
    ∷ round_one id (ones 2 sheet 3 (0 ∷ 1 ∷ []) id (shares_of id) 4 9) 14
    ∷ round_two id (twos 2 sheet 3 (0 ∷ 1 ∷ []) id (shares_of id) 4 9)
    ∷ []

unfoldable calls : ℕ → List Call
calls zero = through 1 0 ++ through 2 0 ++ through 3 0 ++ (enter 3 ∷ drop 2 ∷ enter 1 ∷ close 10 ∷ [])
calls (suc i) = through 1 1 ++ (enter 1 ∷ []) ++ through 2 1 ++ (drop 2 ∷ []) ++ through 3 1

is_pool_lem : is_pool document01 2 sheet 3 2 (λ i. lent 31 88) calls ≡ true
unfolding everything is_pool opens_at bytes_call calls ones twos
is_pool_lem = refl

abbrev pool : Pool document01
pool = pool_of document01 2 sheet 3 2 (λ i. lent 31 88) calls is_pool_lem

answers_1 : map short (answers_at document01 pool 1) ≡ 100 ∷ 100 ∷ 200 ∷ 400 ∷ 100 ∷ 100 ∷ 200 ∷ 400 ∷ 100 ∷ 100 ∷ 200 ∷ []
unfolding everything short calls ones twos
answers_1 = refl

waits_3 : accepted_at document01 pool 1 ≡ 3 ∷ []
unfolding everything calls ones twos
waits_3 = refl

-- ---- verdicts: the second return was accepted and then dropped, the third waits for its entry
abbrev two_on_2 : List ℕ
two_on_2 = twos 2 sheet 3 (0 ∷ 1 ∷ []) 2 (shares_of 2) 4 9

judged_2 : JudgedToEnd document01 pool 1 2 true
unfolding everything calls ones twos
judged_2 = record {
  joined = two_on_2;
  by = record { before = take 6 (calls 1); after = skip 7 (calls 1); among = refl; answered = refl };
}

can_enter_3 : refusal_at document01 pool 1 (enter 3) ≡ 0
can_enter_3 = ((document01_whole_run pool).verdict_first_lem 1 (lit< tt)).can_enter 3 (subst (In 3) (sym waits_3) (inl refl))

cannot_enter_2 : refusal_at document01 pool 1 (enter 2) ≡ 11
cannot_enter_2 = ((document01_whole_run pool).verdict_first_lem 1 (lit< tt)).cannot_enter 2 (λ h. not_3 (subst (In 2) waits_3 h))
  where
    not_3 : In {A = ℕ} 2 (3 ∷ []) → ⊥
    not_3 (inl e) = omega arith
    not_3 (inr k) = k

-- ---- the premises
meets_them : Conditions document01 pool
unfolding everything meets has_written calls ones twos
meets_them = meets_conditions document01 pool refl

stopped : Stopped document01 pool
unfolding everything has_stopped calls ones twos
stopped = has_stopped_lem document01 pool 0 refl

wide : (i : ℕ) → i < 2 → totals_length document01 (opened_at document01 pool i) ≤ 10
unfolding everything
wide i l = omega arith

-- ---- the second server goes on
abbrev after : Pool document01
after = with_calls document01 pool (λ i. pool.calls i ++ goes_on document01 pool 10 i) (goes_on_bytes document01 pool 10)

gone_on : Resumed document01 pool 10 after
gone_on = resumes document01 document01_facts pool meets_them stopped 10 wide (goes_on_bytes document01 pool 10)

-- the pair of the second return lets it in, though it was dropped
by_pair_2 : JudgedByPair document01 pool 2 true
by_pair_2 = (document01_whole_run pool).verdict meets_them.unaltered 1 (lit< tt) 2 true judged_2

lets_2 : lets_in document01 (columns_of sheet) 2 (return_of document01 pool 2) by_pair_2.r by_pair_2.s ≡ true
lets_2 = sym by_pair_2.verdict_is

-- and it is in no total
dropped_2 : In 2 (dropped_at document01 after 1)
unfolding everything calls ones twos
dropped_2 = inl refl

out_2 : In 2 gone_on.closed.ids → ⊥
out_2 = gone_on.closed.dropped_out 1 (lit< tt) 2 dropped_2

-- it enters the third return, as the first server did before
entered_0 : entered_at document01 pool 0 ≡ 3 ∷ 1 ∷ []
unfolding everything calls ones twos
entered_0 = refl

to_enter_1 : to_enter document01 pool 1 ≡ 1 ∷ 3 ∷ []
unfolding everything calls ones twos
to_enter_1 = refl

entered_1 : entered_at document01 after 1 ≡ 1 ∷ 3 ∷ []
entered_1 = gone_on.enters 1 (lit< tt) ∙ to_enter_1

-- two returns, of which one says yes
count_is : join_count (closings document01 after) ≡ 2
count_is = gone_on.closed.count ∙ rearranged_length (rearranged_sym (gone_on.closed.same_ids 1 (lit< tt))) ∙ ap length entered_1

join_is : join_result 2 sheet 3 (closings document01 after) ≡ 0 ∷ 2 ∷ 1 ∷ []
unfolding everything join_result calls ones twos
join_is = refl
