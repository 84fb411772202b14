-- A whole run of two servers with the sheet 21 1: the points (1, 0) and (0, 1) are entered; antt computes it. It meets the conditions,
-- so what is promised of the line through entered points holds of it: y = 1 - x. Assumes nothing.
use mathlib.Core.Path.{◌≡◌, refl, subst}
use mathlib.Core.Logic.{inl, inr}
use mathlib.Core.Bool.{true, cond}
use mathlib.Core.List.{List, [], ◌∷◌, ◌++◌, map}
use Prim.Native.Nat.{ℕ, ◌-◌, ◌*◌, ◌+◌, ◌%◌}
use lib.Dec.{eqb, lit<}
use lib.IntN.{pos, negsuc}
use lib.ListN.{get_or}
use Rattle.algebra.specs.Lists.{In, tabulate}
use Rattle.algebra.proofs.Rearrangement.{rearranged_sym}
use Rattle.rules.specs.Settings.{document01}
use Rattle.rules.specs.Columns.{columns_of}
use Rattle.rules.specs.Making.{made_share}
use Rattle.rules.specs.Ledger.{Call, round_one, round_two, enter, close}
use Rattle.rules.specs.Pools.{Pool, answers_at, entered_at, KeepsForm, Conditions, AllClosed}
use Rattle.rules.specs.WholeRun.{closings, Closed}
use Rattle.rules.specs.Line.{determinant, slope, intercept, names_point, line_sums, line_refusal, Fitted}
use Rattle.rules.specs.Made.{MadeOf, joined_totals, EncodedTotals}
use Rattle.rules.proofs.Computed.Computing.{everything}
use Rattle.rules.proofs.Computed.Facts.{document01_facts}
use Rattle.rules.proofs.Histories.Shuffled.{rearranged_in}
use Rattle.rules.proofs.Runs.WholeTotals.{closed_together}
use Rattle.rules.proofs.Runs.EncodedTotals.{keeps_form}
use Rattle.rules.proofs.Runs.FittedLine.{document01_line_run}
use Rattle.rules.proofs.Runs.MadeRuns.{document01_made_run}
use Rattle.runs.proofs.Tests.{bytes_call, opens_at, is_pool, pool_of, has_written, meets, meets_conditions}
use Rattle.runs.proofs.Tests.{is_ended, all_ended, all_closed, is_whole, made_of}
use Rattle.runs.proofs.TwoServers.{ones, twos, give, short, join_result, lent}

abbrev sheet : List ℕ
sheet = 21 ∷ 1 ∷ []

-- 24 random elements
abbrev random : ℕ → List ℕ
random seed = tabulate (λ k. (k * 1234567891 + seed) % 2147483647) 24

-- (1, 0) is the value 1, and (0, 1) the value 2
abbrev first : ℕ → List ℕ
first = made_share document01 (columns_of sheet) 2 (1 ∷ []) (random 987654321)

abbrev second : ℕ → List ℕ
second = made_share document01 (columns_of sheet) 2 (2 ∷ []) (random 192837465)

abbrev through : ℕ → (ℕ → List ℕ) → ℕ → List Call
through id shares i =
    give id shares 7 5 i
    ∷ round_one id (ones 2 sheet 2 (i ∷ (1 - i) ∷ []) id shares 7 5) 14
    ∷ round_two id (twos 2 sheet 2 (i ∷ (1 - i) ∷ []) id shares 7 5)
    ∷ enter id
    ∷ []

unfoldable pub calls : ℕ → List Call
calls i = through 1 first i ++ through 2 second i ++ (close 22 ∷ [])

pub is_pool_lem : is_pool document01 2 sheet 2 1 (λ i. lent 41 176) calls ≡ true
unfolding everything is_pool opens_at bytes_call calls ones twos
is_pool_lem = refl

abbrev pub pool : Pool document01
pool = pool_of document01 2 sheet 2 1 (λ i. lent 41 176) calls is_pool_lem

answers : map short (answers_at document01 pool 1) ≡ 100 ∷ 100 ∷ 200 ∷ 400 ∷ 100 ∷ 100 ∷ 200 ∷ 400 ∷ 100 ∷ []
unfolding everything short calls ones twos
answers = refl

meets_them : Conditions document01 pool
unfolding everything meets has_written calls ones twos
meets_them = meets_conditions document01 pool refl

ended : AllClosed document01 pool
unfolding everything all_ended is_ended calls ones twos
ended = all_closed document01 pool refl

pub joined : Closed document01 pool
joined = closed_together document01 document01_facts pool meets_them ended

-- the sums of x, x × x, y and x × y
join_is : join_result 2 sheet 2 (closings document01 pool) ≡ 0 ∷ 2 ∷ 1 ∷ 1 ∷ 1 ∷ 0 ∷ []
unfolding everything join_result calls ones twos
join_is = refl

-- ---- both are delivered whole, so they keep their form
made_1 : MadeOf document01 pool 1 (1 ∷ [])
unfolding everything is_whole calls ones twos
made_1 = made_of document01 pool 1 (1 ∷ []) (random 987654321) refl

made_2 : MadeOf document01 pool 2 (2 ∷ [])
unfolding everything is_whole calls ones twos
made_2 = made_of document01 pool 2 (2 ∷ []) (random 192837465) refl

entered_ids : entered_at document01 pool 0 ≡ 1 ∷ 2 ∷ []
unfolding everything calls ones twos
entered_ids = refl

abbrev values : ℕ → List ℕ
values id = cond (eqb id 1) (1 ∷ []) (2 ∷ [])

each_made : (id : ℕ) → In id (entered_at document01 pool 0) → MadeOf document01 pool id (values id)
each_made id h = go (subst (In id) entered_ids h)
  where
    go : In id (1 ∷ 2 ∷ []) → MadeOf document01 pool id (values id)
    go (inl e) = subst (λ (k : ℕ). MadeOf document01 pool k (values k)) e made_1
    go (inr (inl e)) = subst (λ (k : ℕ). MadeOf document01 pool k (values k)) e made_2
    go (inr (inr k)) = absurd k

keeps : (id : ℕ) → In id joined.ids → KeepsForm document01 pool id
keeps id h =
    let entered : In id (entered_at document01 pool 0) = rearranged_in id (rearranged_sym (joined.same_ids 0 (lit< tt))) h in
    keeps_form document01 document01_facts pool id (each_made id entered).0

-- the total of x × x, by the values
told : EncodedTotals document01 pool (entered_at document01 pool 0) values
told = (document01_made_run pool).totals meets_them ended 0 (lit< tt) values each_made

squares_told : get_or (joined_totals document01 pool) 1 0 ≡ 1
unfolding everything calls ones twos
squares_told = told.point_total [] [] 1 1 refl (lit< tt)

-- ---- the line through them
names_it : names_point 1 (columns_of sheet) ≡ true
unfolding everything
names_it = refl

pub fitted : Fitted document01 pool 1 joined.ids
fitted = document01_line_run pool joined keeps 1 names_it

pub line_is : (determinant (line_sums document01 2 sheet (closings document01 pool) 1) ≡ pos 1)
    × (slope (line_sums document01 2 sheet (closings document01 pool) 1) ≡ negsuc 0)
    × (intercept (line_sums document01 2 sheet (closings document01 pool) 1) ≡ pos 1)
unfolding everything calls ones twos
line_is = (refl, refl, refl)

not_refused : line_refusal document01 2 sheet 2 (closings document01 pool) 1 ≡ 0
unfolding everything calls ones twos
not_refused = refl
