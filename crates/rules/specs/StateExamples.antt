-- Where a pool stands, as a table tells it: rows that compute. proofs/Computed has them pass.
-- Assumes nothing.
use Rattle.std.specs.Prelude.{Bool, ◌&&◌, List, [], ◌∷◌, ℕ, eqb, take}
use Rattle.rules.specs.Table.{Lent, opened_table, drop_table, close_table}
use Rattle.rules.specs.State.{state_refusal, state_of}
use Rattle.rules.specs.Examples.{Row, row, σ, same, honest}
use Rattle.rules.specs.SoundExamples.{fresh, sized, with_slots}
use Rattle.rules.specs.TableExamples.{judged_by, first, second, waiting}
use Rattle.rules.specs.WaitingExamples.{many_wait}

-- a table is not refused, and tells these: S, the own number, N, Q, whether it is closed, how many are decided, entered and wait
abbrev tells : Lent → List ℕ → Bool
tells T ns =
    let k = state_of σ T in
    eqb (state_refusal σ T) 0
    && same
    (k.servers ∷ k.own ∷ k.returns ∷ k.least ∷ k.closed ∷ k.decided ∷ k.entered ∷ k.waiting ∷ []) ns

abbrev refuses : Lent → Bool
refuses T = eqb (state_refusal σ T) 11

-- server 2's of three, with N = 9 and Q = 5
abbrev another : Lent
another = opened_table σ 3 2 (17 ∷ []) 9 5 (record { bytes = []; slots = []; elements = [] })

unfoldable pub states : List Row
states =
    row "a fresh table" (tells (fresh 0) (2 ∷ 0 ∷ 2 ∷ 1 ∷ 0 ∷ 0 ∷ 0 ∷ 0 ∷ []))
    ∷ row "with another S, own number, N and Q" (tells another (3 ∷ 2 ∷ 9 ∷ 5 ∷ 0 ∷ 0 ∷ 0 ∷ 0 ∷ []))
    ∷ row "one waits" (tells (waiting 1) (2 ∷ 1 ∷ 2 ∷ 1 ∷ 0 ∷ 0 ∷ 0 ∷ 1 ∷ []))
    ∷ row "an accepted one waits too" (tells (judged_by fresh honest 77 4 0) (2 ∷ 0 ∷ 2 ∷ 1 ∷ 0 ∷ 0 ∷ 0 ∷ 1 ∷ []))
    ∷ row "once entered it is decided" (tells (first 0) (2 ∷ 0 ∷ 2 ∷ 1 ∷ 0 ∷ 1 ∷ 1 ∷ 0 ∷ []))
    ∷ row "a rejected one is decided and not entered" (tells (second 0) (2 ∷ 0 ∷ 2 ∷ 1 ∷ 0 ∷ 2 ∷ 1 ∷ 0 ∷ []))
    ∷ row "and so is a dropped one" (tells (drop_table σ (waiting 0) 77) (2 ∷ 0 ∷ 2 ∷ 1 ∷ 0 ∷ 1 ∷ 0 ∷ 0 ∷ []))
    ∷ row "eight wait" (tells (many_wait 9 8 0) (2 ∷ 0 ∷ 9 ∷ 1 ∷ 0 ∷ 0 ∷ 0 ∷ 8 ∷ []))
    ∷ row "a closed table" (tells (close_table σ (second 0)) (2 ∷ 0 ∷ 2 ∷ 1 ∷ 1 ∷ 2 ∷ 1 ∷ 0 ∷ []))
    ∷ row "a table that is cut: 11" (refuses (sized 26))
    ∷ row "seven records: 11" (refuses (with_slots (fresh 0) (take 7 (fresh 0).slots)))
    ∷ []
