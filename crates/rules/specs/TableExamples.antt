-- Document 01, "Judging", "Whole runs" and "Who can cause which refusal": calls on a server's table by rows that compute: on the
-- tables of two servers, the orders of refusals, and what is kept of a return. SoundExamples has the tables within the limits,
-- WaitingExamples the rows about several returns that wait, OrderExamples those about joined messages in any order,
-- ChallengeExamples those about r and s in them, LeastExamples those about the least count, EntryExamples those about entering.
-- Assumes nothing.
use Rattle.std.specs.Prelude.{Bool, ◌&&◌, ◌||◌, not, List, [], ◌∷◌, ◌++◌, ℕ, ◌+◌, eqb, set, take, replicate}
use Rattle.algebra.specs.Lists.{every, tabulate}
use Rattle.words.specs.Bytes.{bytes_of, bytes_of_all, splice}
use Rattle.slots.specs.declared.Slot.{Slot}
use Rattle.rules.specs.Making.{share_message, make_refusal}
use Rattle.rules.specs.Table.{Lent, entered_in, totals_in, unused_in, open_refusal, share_refused, share_table, share_bytes}
use Rattle.rules.specs.Table.{one_refused, one_table}
use Rattle.rules.specs.Table.{one_bytes, two_refused, two_verdict, two_table, enter_refused, enter_table, drop_refused, drop_table}
use Rattle.rules.specs.Table.{close_refused, close_table, close_bytes}
use Rattle.rules.specs.Joining.{join_refusal, join_count, join_totals}
use Rattle.rules.specs.Examples.{Row, row, P, σ, same, random, honest, cheat}
use Rattle.rules.specs.SoundExamples.{fresh, sized, slot_at, waits_at}

-- The calls on the tables of two servers, one after another. The share of server i under an id
abbrev pub share_in : (ℕ → ℕ → ℕ) → ℕ → ℕ → List ℕ
share_in x id i = share_message σ id i (tabulate (x i) 9)

-- what the two servers write for a return with the shares x, under an id, with the challenges r and 9
module _ (T : ℕ → Lent) (x : ℕ → ℕ → ℕ) (id r : ℕ) where
  abbrev pub took : ℕ → Lent
  took i = share_table σ (T i) (share_in x id i) r 9

  abbrev pub ones : List ℕ
  ones = share_bytes σ (T 0) (share_in x id 0) r 9 ++ share_bytes σ (T 1) (share_in x id 1) r 9

  abbrev pub summed_up : ℕ → Lent
  summed_up i = one_table σ (took i) id ones

  abbrev pub twos : List ℕ
  twos = one_bytes σ (took 0) id ones ++ one_bytes σ (took 1) id ones

  abbrev pub judged_by : ℕ → Lent
  judged_by i = two_table σ (summed_up i) id twos

  -- and entered
  abbrev pub entered_by : ℕ → Lent
  entered_by i = enter_table σ (judged_by i) id

-- after an honest return under 77 was entered; then after a false one under 78 with r = 3; then closed
abbrev pub first : ℕ → Lent
first = entered_by fresh honest 77 4

abbrev pub second : ℕ → Lent
second = judged_by first cheat 78 3

abbrev joined_totals : List ℕ
joined_totals = close_bytes σ (second 0) ++ close_bytes σ (second 1)

-- the tables after the first share, 77, and after that return was dropped
abbrev pub waiting : ℕ → Lent
waiting = took fresh honest 77 4

abbrev pub messages : List ℕ
messages = ones fresh honest 77 4

abbrev after_drop : ℕ → Lent
after_drop i = drop_table σ (waiting i) 77

abbrev share_of77 : List ℕ
share_of77 = share_in honest 77 0

abbrev pub broken : List ℕ
broken = 0 ∷ []

unfoldable pub on_tables : List Row
on_tables =
    row "an honest return is accepted" (two_verdict σ (summed_up fresh honest 77 4 0) (twos fresh honest 77 4))
    ∷ row "round one and two are not refused"
    (eqb (one_refused σ (waiting 0) 77 messages 14) 0
    && eqb (two_refused σ (summed_up fresh honest 77 4 0) 77 (twos fresh honest 77 4)) 0)
    ∷ row "a false return is rejected" (not (two_verdict σ (summed_up first cheat 78 3 1) (twos first cheat 78 3)))
    ∷ row "the first return decided: a second is taken" (eqb (share_refused σ (first 0) (share_in cheat 78 0) 3 9 22) 0)
    ∷ row "N decided: every share is 13, however broken" (eqb (share_refused σ (second 0) broken 3 9 22) 13)
    ∷ row "below N a broken share is 7" (eqb (share_refused σ (first 0) broken 3 9 22) 7)
    ∷ row "closing is not refused" (eqb (close_refused σ (second 0) 10) 0)
    ∷ row "joining is not refused" (eqb (join_refusal σ 2 (17 ∷ []) 2 joined_totals 4) 0)
    ∷ row "one return was entered" (eqb (join_count joined_totals) 1)
    ∷ row "the total is 1" (same (join_totals σ 2 (17 ∷ []) joined_totals) (1 ∷ []))
    ∷ row "an entered id used again: 10" (eqb (share_refused σ (first 0) share_of77 4 9 22) 10)
    ∷ row "a dropped id used again: 10" (eqb (share_refused σ (after_drop 0) share_of77 4 9 22) 10)
    ∷ row "a dropped return is not added" (same (totals_in σ (after_drop 0).bytes) (0 ∷ []) && eqb (entered_in σ (after_drop 0).bytes) 0)
    ∷ row "own round message altered: 12" (eqb (one_refused σ (waiting 0) 77 (set messages 6 255) 14) 12)
    ∷ row "another's sound message is not compared" (eqb (one_refused σ (waiting 0) 77 (set messages 28 7) 14) 0)
    ∷ row "messages of another id: 12" (eqb (one_refused σ (waiting 0) 77 (ones fresh honest 78 4) 14) 12)
    ∷ row "messages of the other round: 12" (eqb (one_refused σ (waiting 0) 77 (twos fresh honest 77 4) 14) 12)
    ∷ row "another's element that is p: 12"
    (eqb (one_refused σ (waiting 0) 77 (take 28 messages ++ bytes_of_all 4 (P ∷ 0 ∷ 4 ∷ 9 ∷ [])) 14) 12)
    ∷ row "one message missing: 12" (eqb (one_refused σ (waiting 0) 77 (take 22 messages) 14) 12)
    ∷ row "room for 13 bytes: 14" (eqb (one_refused σ (waiting 0) 77 messages 13) 14)
    ∷ row "a close while one waits: 11" (eqb (close_refused σ (waiting 0) 100) 11)
    ∷ row "a close while the eighth record alone waits: 11" (eqb (close_refused σ (slot_at 7 (waits_at 1)) 100) 11)
    ∷ row "round two before round one: 11" (eqb (two_refused σ (waiting 0) 77 (twos fresh honest 77 4)) 11)
    ∷ row "a drop with nothing waiting: 11" (eqb (drop_refused σ (fresh 0) 0) 11)
    ∷ row "a drop while awaiting round one: 0" (eqb (drop_refused σ (waiting 0) 77) 0)
    ∷ row "a drop while awaiting round two: 0" (eqb (drop_refused σ (summed_up fresh honest 77 4 0) 77) 0)
    ∷ row "closed: a drop and a round are 11, though a return waits"
    (eqb (drop_refused σ (close_table σ (waiting 0)) 77) 11 && eqb (one_refused σ (close_table σ (waiting 0)) 77 messages 14) 11)
    ∷ row "closed: a share is 11" (eqb (share_refused σ (close_table σ (first 0)) broken 3 9 22) 11)
    ∷ row "closed: a close is 11" (eqb (close_refused σ (close_table σ (first 0)) 100) 11)
    ∷ row "a share for another server: 7" (eqb (share_refused σ (fresh 1) share_of77 4 9 22) 7)
    ∷ row "an element that is p: 8" (eqb (share_refused σ (fresh 0) (take 6 share_of77 ++ bytes_of_all 4 (P ∷ replicate 8 0)) 4 9 22) 8)
    ∷ row "a table cut by a byte: 11" (eqb (close_refused σ (sized 26) 100) 11)
    ∷ row "totals counts unequal: 12" (eqb (join_refusal σ 2 (17 ∷ []) 2 (set joined_totals 2 0) 4) 12)
    ∷ row "totals counts over N: 12" (eqb (join_refusal σ 2 (17 ∷ []) 2 (set (set joined_totals 2 3) 12 3) 4) 12)
    ∷ row "totals in another server order: 12" (eqb (join_refusal σ 2 (17 ∷ []) 2 (close_bytes σ (second 1) ++ close_bytes σ (second 0)) 4) 12)
    ∷ []

-- a share at fault in every way, and then in one way fewer each time: the wrong kind, an element p, an id decided before
abbrev kind34 : List ℕ → List ℕ
kind34 m = set m 0 34

abbrev pub with_p : List ℕ → List ℕ
with_p m = splice m 6 (bytes_of 4 P)

abbrev share79 : List ℕ
share79 = share_in honest 79 0

-- "A share: 11, 13, 7, 8, 10, 9, 14." With r = M, and room for 21 bytes
unfoldable pub in_order : List Row
in_order =
    row "11: closed, with N decided" (eqb (share_refused σ (close_table σ (second 0)) (kind34 (with_p share_of77)) 1 9 21) 11)
    ∷ row "13: N decided" (eqb (share_refused σ (second 0) (kind34 (with_p share_of77)) 1 9 21) 13)
    ∷ row "7: wrong kind" (eqb (share_refused σ (first 0) (kind34 (with_p share_of77)) 1 9 21) 7)
    ∷ row "8: an element p" (eqb (share_refused σ (first 0) (with_p share_of77) 1 9 21) 8)
    ∷ row "10: id decided" (eqb (share_refused σ (first 0) share_of77 1 9 21) 10)
    ∷ row "9: r = M" (eqb (share_refused σ (first 0) share79 1 9 21) 9)
    ∷ row "14: room for 21 bytes" (eqb (share_refused σ (first 0) share79 2 9 21) 14)
    ∷ row "taken" (eqb (share_refused σ (first 0) share79 2 9 22) 0)
    ∷ []

-- The other calls, each at fault in every way that it can be, and then in one way fewer each time
abbrev wrong_sheet : List ℕ
wrong_sheet = 20 ∷ []

abbrev sheet24 : List ℕ
sheet24 = 19 ∷ 24 ∷ []

abbrev no_totals : List ℕ
no_totals = (36 ∷ 0 ∷ replicate 8 0) ++ (36 ∷ 1 ∷ replicate 8 0)

abbrev yes_bytes : List ℕ
yes_bytes = bytes_of 4 1

unfoldable pub other_orders : List Row
other_orders =
    -- "Making: sheet, S, 5, 6, 14."
    row "making: the sheet" (eqb (make_refusal σ wrong_sheet 9 [] [] 83) 1)
    ∷ row "making: S" (eqb (make_refusal σ (17 ∷ []) 9 [] [] 83) 2)
    ∷ row "making: 5, no value" (eqb (make_refusal σ (17 ∷ []) 2 [] [] 83) 5)
    ∷ row "making: 6, no random element" (eqb (make_refusal σ (17 ∷ []) 2 yes_bytes [] 83) 6)
    ∷ row "making: 14, room for 83 bytes" (eqb (make_refusal σ (17 ∷ []) 2 yes_bytes (bytes_of_all 4 random) 83) 14)
    ∷ row "made" (eqb (make_refusal σ (17 ∷ []) 2 yes_bytes (bytes_of_all 4 random) 84) 0)
    -- "Opening: S and own number, sheet, N, 4, 14", Q after N
    ∷ row "opening: S" (eqb (open_refusal σ 9 9 wrong_sheet 1025 0 531 7 647) 2)
    ∷ row "opening: own number" (eqb (open_refusal σ 2 2 wrong_sheet 1025 0 531 7 647) 2)
    ∷ row "opening: the sheet" (eqb (open_refusal σ 2 1 wrong_sheet 1025 0 531 7 647) 1)
    ∷ row "opening: N" (eqb (open_refusal σ 2 1 sheet24 1025 0 531 7 647) 2)
    ∷ row "opening: Q" (eqb (open_refusal σ 2 1 sheet24 129 0 531 7 647) 2)
    ∷ row "opening: 4" (eqb (open_refusal σ 2 1 sheet24 129 1 531 7 647) 4)
    ∷ row "opening: 14, room for 531 bytes" (eqb (open_refusal σ 2 1 sheet24 128 1 531 8 648) 14)
    ∷ row "opening: 14, seven records, or nine"
    (eqb (open_refusal σ 2 1 sheet24 128 1 532 7 648) 14 && eqb (open_refusal σ 2 1 sheet24 128 1 532 9 648) 14)
    ∷ row "opening: 14, 647 numbers" (eqb (open_refusal σ 2 1 sheet24 128 1 532 8 647) 14)
    ∷ row "opened" (eqb (open_refusal σ 2 1 sheet24 128 1 532 8 648) 0)
    -- "Round one: 11, 12, 14", 16 after 12. "Round two, which writes no message: 11, 12." "Close: 11, 14", 15 between
    ∷ row "round one: 11, nothing waits" (eqb (one_refused σ (fresh 0) 77 broken 13) 11)
    ∷ row "round one: 12, wrong kind and another r" (eqb (one_refused σ (waiting 0) 77 (set (set messages 36 5) 22 0) 13) 12)
    ∷ row "round one: 16" (eqb (one_refused σ (waiting 0) 77 (set messages 36 5) 13) 16)
    ∷ row "round one: 14, room for 13 bytes" (eqb (one_refused σ (waiting 0) 77 messages 13) 14)
    ∷ row "round two: 11, awaits round one" (eqb (two_refused σ (waiting 0) 77 broken) 11)
    ∷ row "round two: 12" (eqb (two_refused σ (summed_up fresh honest 77 4 0) 77 broken) 12)
    ∷ row "close: 11, a return waits" (eqb (close_refused σ (waiting 0) 9) 11)
    -- entering knows 11 alone
    ∷ row "entering: 11, nothing waits; entered"
    (eqb (enter_refused σ (fresh 0) 77) 11 && eqb (enter_refused σ (judged_by fresh honest 77 4 0) 77) 0)
    ∷ row "close: 15, none entered" (eqb (close_refused σ (fresh 0) 9) 15)
    ∷ row "close: 14, room for 9 bytes" (eqb (close_refused σ (first 0) 9) 14)
    ∷ row "close: taken" (eqb (close_refused σ (first 0) 10) 0)
    -- "Joining: S, sheet, N, 4, 12, 14."
    ∷ row "joining: S" (eqb (join_refusal σ 9 wrong_sheet 1025 broken 3) 2)
    ∷ row "joining: the sheet" (eqb (join_refusal σ 2 wrong_sheet 1025 broken 3) 1)
    ∷ row "joining: N" (eqb (join_refusal σ 2 sheet24 1025 broken 3) 2)
    ∷ row "joining: 4" (eqb (join_refusal σ 2 sheet24 129 broken 3) 4)
    ∷ row "joining: 12" (eqb (join_refusal σ 2 sheet24 128 broken 3) 12)
    ∷ row "joining: 14, room for 3 bytes" (eqb (join_refusal σ 2 sheet24 128 no_totals 3) 14)
    ∷ row "joined" (eqb (join_refusal σ 2 sheet24 128 no_totals 4) 0)
    ∷ []

-- all records are free, and all numbers 0
abbrev is_zero : Slot → Bool
is_zero x = eqb (x.id + x.stage + x.r + x.s + x.d + x.e) 0

abbrev pub all_zero : List Slot → Bool
all_zero xs = every is_zero xs

abbrev nothing_kept : Lent → Bool
nothing_kept T = all_zero T.slots && same T.elements (replicate 88 0)

unfoldable pub erasures : List Row
erasures =
    row "a fresh table" (nothing_kept (fresh 0))
    ∷ row "a return that waits is kept" (not (nothing_kept (waiting 0) || nothing_kept (summed_up fresh honest 77 4 0)))
    ∷ row "and so it is once it is accepted" (not (nothing_kept (judged_by fresh honest 77 4 0)))
    ∷ row "nothing but its id after it was entered" (nothing_kept (first 0) && nothing_kept (first 1))
    ∷ row "nor after another was rejected" (nothing_kept (second 0) && nothing_kept (second 1))
    ∷ row "nor after a drop"
    (nothing_kept (after_drop 0)
    && (nothing_kept (drop_table σ (summed_up fresh honest 77 4 1) 77) && nothing_kept (drop_table σ (judged_by fresh honest 77 4 1) 77)))
    ∷ row "nor after the close" (nothing_kept (close_table σ (second 0)) && nothing_kept (close_table σ (second 1)))
    ∷ row "the room for further ids is 0"
    (same (unused_in σ (fresh 0).bytes) (replicate 8 0)
    && (same (unused_in σ (first 0).bytes) (replicate 4 0) && same (unused_in σ (second 0).bytes) []))
    ∷ []
