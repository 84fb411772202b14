-- Document 02, verdict first: calls on a return that has its verdict, by rows that compute. proofs/Computed has them pass.
-- Assumes nothing.
use Rattle.std.specs.Prelude.{Bool, ◌&&◌, List, [], ◌∷◌, ◌++◌, ℕ, eqb, get_or, take}
use Rattle.slots.specs.declared.Slot.{Slot}
use Rattle.slots.specs.Slots.{free_slot}
use Rattle.rules.specs.WaitingList.{waiting_count}
use Rattle.rules.specs.Table.{Lent, decided_in, entered_in, totals_in, ids_in, share_refused, one_refused, two_refused}
use Rattle.rules.specs.Table.{two_table, enter_refused, enter_table, drop_refused, drop_table, close_refused, close_table, close_bytes}
use Rattle.rules.specs.Joining.{join_refusal, join_count, join_totals}
use Rattle.rules.specs.Ledger.{enter, close}
use Rattle.rules.specs.Runs.{run_table}
use Rattle.rules.specs.Examples.{Row, row, σ, same, honest}
use Rattle.rules.specs.SoundExamples.{fresh, with_bytes}
use Rattle.rules.specs.TableExamples.{share_in, summed_up, twos, judged_by, first, second, waiting, messages}
use Rattle.rules.specs.WaitingExamples.{many_wait}

-- an honest return under 77: awaiting round two, accepted, entered; accepted and dropped
abbrev before_two : ℕ → Lent
before_two = summed_up fresh honest 77 4

abbrev accepted : ℕ → Lent
accepted = judged_by fresh honest 77 4

abbrev entered : ℕ → Lent
entered i = enter_table σ (accepted i) 77

abbrev dropped_late : ℕ → Lent
dropped_late i = drop_table σ (accepted i) 77

-- the first record, and that record in another stage
abbrev slot_in : Lent → Slot
slot_in T = get_or T.slots 0 free_slot

abbrev same_slot : ℕ → Slot → Slot → Bool
same_slot stage x y =
    eqb x.id y.id
    && (eqb x.stage stage && (eqb x.r y.r && (eqb x.s y.s && (eqb x.d y.d && eqb x.e y.e))))

-- the counts, the ids decided and the totals
abbrev says : Lent → ℕ → ℕ → List ℕ → List ℕ → Bool
says T decided entered ids totals =
    eqb (decided_in σ T.bytes) decided
    && (eqb (entered_in σ T.bytes) entered && (same (ids_in σ T.bytes) ids && same (totals_in σ T.bytes) totals))

-- the first element of server i's share: its share of the one published entry
abbrev published : ℕ → ℕ
published i = honest i 0

unfoldable pub verdict_first : List Row
verdict_first =
    row "an accepted verdict changes no byte and no number"
    (same (accepted 0).bytes (before_two 0).bytes && same (accepted 0).elements (before_two 0).elements)
    ∷ row "and of its record the stage alone" (same_slot 3 (slot_in (accepted 0)) (slot_in (before_two 0)))
    ∷ row "no other record waits" (eqb (waiting_count (accepted 0).slots) 1)
    ∷ row "it is not decided, and in no total" (says (accepted 0) 0 0 [] (0 ∷ []))
    ∷ row "a rejected one is decided at once" (says (second 0) 2 1 (77 ∷ 78 ∷ []) (published 0 ∷ []))
    ∷ row "entering is not refused" (eqb (enter_refused σ (accepted 0) 77) 0 && eqb (enter_refused σ (accepted 1) 77) 0)
    ∷ row "it counts the return, notes its id and adds its share"
    (says (entered 0) 1 1 (77 ∷ []) (published 0 ∷ []) && says (entered 1) 1 1 (77 ∷ []) (published 1 ∷ []))
    ∷ row "and frees its record" (eqb (slot_in (entered 0)).stage 0 && eqb (waiting_count (entered 0).slots) 0)
    ∷ row "entering twice: 11, and nothing is added again"
    (eqb (enter_refused σ (entered 0) 77) 11
    && same (totals_in σ (run_table σ (accepted 0) (enter 77 ∷ enter 77 ∷ [])).bytes) (published 0 ∷ []))
    ∷ row "entering a rejected one: 11" (eqb (enter_refused σ (second 0) 78) 11)
    ∷ row "entering a dropped one: 11" (eqb (enter_refused σ (dropped_late 0) 77) 11)
    ∷ row "entering in the first wait: 11" (eqb (enter_refused σ (waiting 0) 77) 11)
    ∷ row "entering in the second wait: 11" (eqb (enter_refused σ (before_two 0) 77) 11)
    ∷ row "entering an id that is not known: 11" (eqb (enter_refused σ (accepted 0) 78) 11)
    ∷ row "a closed table: 11" (eqb (enter_refused σ (close_table σ (accepted 0)) 77) 11)
    ∷ row "a table that is cut: 11" (eqb (enter_refused σ (with_bytes (accepted 0) (take 26 (accepted 0).bytes)) 77) 11)
    ∷ row "both rounds on an accepted one: 11"
    (eqb (one_refused σ (accepted 0) 77 messages 14) 11 && eqb (two_refused σ (accepted 0) 77 (twos fresh honest 77 4)) 11)
    ∷ []

-- while an accepted return waits. With N = 2: one entered and one accepted; with N = 9: eight of which the last is accepted
abbrev one_more : ℕ → Lent
one_more = judged_by first honest 78 4

abbrev eight_wait : Lent
eight_wait = two_table σ (summed_up (many_wait 9 7) honest 8 4 0) 8 (twos (many_wait 9 7) honest 8 4)

-- server 1 stopped before it entered 77, and goes on once server 0 has closed: its close is refused until it has entered
abbrev resumed : ℕ → Lent
resumed i = run_table σ (accepted i) (close 10 ∷ enter 77 ∷ [])

abbrev totals_late : List ℕ
totals_late = close_bytes σ (entered 0) ++ close_bytes σ (resumed 1)

unfoldable pub while_accepted : List Row
while_accepted =
    row "a close while one waits for entry: 11" (eqb (close_refused σ (accepted 0) 100) 11)
    ∷ row "with Q entered too" (eqb (close_refused σ (one_more 0) 100) 11 && eqb (close_refused σ (enter_table σ (one_more 0) 78) 10) 0)
    ∷ row "its id used again: 10" (eqb (share_refused σ (accepted 0) (share_in honest 77 0) 4 9 22) 10)
    ∷ row "it counts towards N: 13" (eqb (share_refused σ (one_more 0) (share_in honest 79 0) 4 9 22) 13)
    ∷ row "it is one of the eight: the ninth is 11"
    (eqb (waiting_count eight_wait.slots) 8 && eqb (share_refused σ eight_wait (share_in honest 9 0) 4 9 22) 11)
    ∷ row "once it is entered another is taken" (eqb (share_refused σ (enter_table σ eight_wait 8) (share_in honest 9 0) 4 9 22) 0)
    ∷ row "a drop after an accepted verdict is taken" (eqb (drop_refused σ (accepted 0) 77) 0)
    ∷ row "the return is then in no total and its id stays used"
    (says (dropped_late 0) 1 0 (77 ∷ []) (0 ∷ []) && eqb (share_refused σ (dropped_late 0) (share_in honest 77 0) 4 9 22) 10)
    ∷ row "and does not count for Q: 15" (eqb (close_refused σ (dropped_late 0) 10) 15)
    ∷ row "a server that goes on later joins with the others"
    (eqb (join_refusal σ 2 (17 ∷ []) 2 totals_late 4) 0
    && (eqb (join_count totals_late) 1 && same (join_totals σ 2 (17 ∷ []) totals_late) (1 ∷ [])))
    ∷ []
