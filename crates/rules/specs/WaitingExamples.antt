-- Document 02, eight returns waiting: calls on tables in which several returns wait, by rows that compute.
-- Assumes nothing.
use Rattle.std.specs.Prelude.{◌&&◌, not, List, [], ◌∷◌, ◌++◌, ℕ, zero, suc, eqb, get_or, take, drop}
use Rattle.slots.specs.Slots.{free_slot}
use Rattle.rules.specs.WaitingList.{waiting_count}
use Rattle.rules.specs.Table.{Lent, ids_in, table_sound, share_refused, share_table, one_refused, one_table, one_bytes, two_refused}
use Rattle.rules.specs.Table.{two_verdict, two_table, enter_table, drop_refused, drop_table, close_refused, close_bytes}
use Rattle.rules.specs.Examples.{Row, row, σ, same, honest, cheat, opened}
use Rattle.rules.specs.SoundExamples.{with_numbers}
use Rattle.rules.specs.TableExamples.{share_in, with_p, took, ones, twos, broken}

-- the table of server i for sheet 17 and N, and with so many honest returns waiting, under the ids 1, 2 ..
abbrev open_for : ℕ → ℕ → Lent
open_for returns i = opened i (17 ∷ []) returns

unfoldable pub many_wait : ℕ → ℕ → ℕ → Lent
many_wait returns zero i = open_for returns i
many_wait returns (suc n) i = share_table σ (many_wait returns n i) (share_in honest (suc n) i) 4 9

abbrev share_at : Lent → ℕ → ℕ
share_at T id = share_refused σ T (share_in honest id 0) 4 9 22

-- the stage of a record
abbrev stage_at : Lent → ℕ → ℕ
stage_at T i = (get_or T.slots i free_slot).stage

abbrev id_at : Lent → ℕ → ℕ
id_at T i = (get_or T.slots i free_slot).id

-- two returns wait, 1 honest and 2 false, taken with r = 4 and r = 3; what the servers write for each
abbrev one_waits : ℕ → Lent
one_waits = took (open_for 4) honest 1 4

abbrev two_wait : ℕ → Lent
two_wait = took one_waits cheat 2 3

abbrev firsts1 : List ℕ
firsts1 = ones (open_for 4) honest 1 4

abbrev firsts2 : List ℕ
firsts2 = ones one_waits cheat 2 3

-- round one on 2, then on 1
abbrev summed2 : ℕ → Lent
summed2 i = one_table σ (two_wait i) 2 firsts2

abbrev summed_both : ℕ → Lent
summed_both i = one_table σ (summed2 i) 1 firsts1

abbrev seconds1 : List ℕ
seconds1 = one_bytes σ (summed2 0) 1 firsts1 ++ one_bytes σ (summed2 1) 1 firsts1

abbrev seconds2 : List ℕ
seconds2 = one_bytes σ (two_wait 0) 2 firsts2 ++ one_bytes σ (two_wait 1) 2 firsts2

-- round two on 1 and its entry, then round two on 2
abbrev decided1 : ℕ → Lent
decided1 i = enter_table σ (two_table σ (summed_both i) 1 seconds1) 1

abbrev decided_both : ℕ → Lent
decided_both i = two_table σ (decided1 i) 2 seconds2

-- a third return taken once the first is decided
abbrev third_taken : ℕ → Lent
third_taken i = share_table σ (decided1 i) (share_in honest 3 i) 4 9

-- the numbers of the first two places exchanged
abbrev exchanged : Lent → Lent
exchanged T = with_numbers T (take 11 (drop 11 T.elements) ++ take 11 T.elements ++ drop 22 T.elements)

unfoldable pub mixed : List Row
mixed =
    row "the messages of a return are those that it has alone"
    (same firsts2 (ones (open_for 4) cheat 2 3)
    && (same seconds1 (twos (open_for 4) honest 1 4) && same seconds2 (twos (open_for 4) cheat 2 3)))
    ∷ row "and so is its verdict" (two_verdict σ (summed_both 0) seconds1 && not (two_verdict σ (decided1 0) seconds2))
    ∷ row "none of the calls is refused"
    (eqb (one_refused σ (two_wait 0) 2 firsts2 14) 0
    && (eqb (one_refused σ (summed2 0) 1 firsts1 14) 0
    && (eqb (two_refused σ (summed_both 0) 1 seconds1) 0 && eqb (two_refused σ (decided1 0) 2 seconds2) 0)))
    ∷ row "each has its own stage" (eqb (stage_at (summed2 0) 0) 1 && eqb (stage_at (summed2 0) 1) 2)
    ∷ row "round one under an id in the second wait: 11" (eqb (one_refused σ (summed2 0) 2 firsts2 14) 11)
    ∷ row "round two under an id in the first wait: 11" (eqb (two_refused σ (summed2 0) 1 seconds1) 11)
    ∷ row "the messages of the other return: 12"
    (eqb (one_refused σ (two_wait 0) 1 firsts2 14) 12 && eqb (two_refused σ (summed_both 0) 1 seconds2) 12)
    ∷ row "elements of two returns exchanged: the own message is another, 12"
    (eqb (two_refused σ (exchanged (summed_both 0)) 1 seconds1) 12)
    ∷ row "an id that does not wait: 11"
    (eqb (one_refused σ (two_wait 0) 3 firsts1 14) 11
    && (eqb (two_refused σ (summed_both 0) 3 seconds1) 11 && eqb (drop_refused σ (two_wait 0) 3) 11))
    ∷ row "a decided id: 11" (eqb (one_refused σ (decided1 0) 1 firsts1 14) 11 && eqb (drop_refused σ (decided1 0) 1) 11)
    ∷ row "the record of the entered return is freed, the other stays" (eqb (stage_at (decided1 0) 0) 0 && eqb (id_at (decided1 0) 1) 2)
    ∷ row "a drop frees the record that it names"
    (eqb (stage_at (drop_table σ (two_wait 0) 2) 1) 0 && eqb (id_at (drop_table σ (two_wait 0) 2) 0) 1)
    ∷ row "and its numbers, not those of the other"
    (same (drop 11 (drop_table σ (two_wait 0) 2).elements) (drop 11 (open_for 4 0).elements)
    && same (take 11 (drop_table σ (two_wait 0) 2).elements) (take 11 (two_wait 0).elements))
    ∷ row "the next share goes into the first free record" (eqb (id_at (third_taken 0) 0) 3 && eqb (id_at (third_taken 0) 1) 2)
    ∷ row "the ids decided stand in the order in which they were" (same (ids_in σ (decided_both 0).bytes) (1 ∷ 2 ∷ []))
    ∷ row "one was entered" (eqb (get_or (close_bytes σ (decided_both 0)) 2 0) 1)
    ∷ []

unfoldable pub eight : List Row
eight =
    row "the eighth share is taken" (eqb (share_at (many_wait 9 7 0) 8) 0 && eqb (waiting_count (many_wait 9 8 0).slots) 8)
    ∷ row "eight wait: the table is sound" (table_sound σ (many_wait 9 8 0))
    ∷ row "the ninth is 11, below N and at N" (eqb (share_at (many_wait 9 8 0) 9) 11 && eqb (share_at (many_wait 8 8 0) 9) 11)
    ∷ row "11 comes before 7" (eqb (share_refused σ (many_wait 9 8 0) broken 1 9 21) 11)
    ∷ row "seven waiting and one decided of N = 8: 13" (eqb (share_at (drop_table σ (many_wait 8 8 0) 3) 9) 13)
    ∷ row "of N = 9: taken" (eqb (share_at (drop_table σ (many_wait 9 8 0) 3) 9) 0)
    ∷ row "two waiting of N = 2: 13" (eqb (share_refused σ (many_wait 2 2 0) broken 1 9 21) 13)
    ∷ row "an id that waits used again: 10" (eqb (share_at (many_wait 9 7 0) 7) 10 && eqb (share_at (many_wait 9 7 0) 1) 10)
    ∷ row "10 before 9, 8 before 10"
    (eqb (share_refused σ (many_wait 9 2 0) (share_in honest 1 0) 1 9 21) 10
    && eqb (share_refused σ (many_wait 9 2 0) (with_p (share_in honest 1 0)) 1 9 21) 8)
    ∷ row "a close while the eighth waits: 11" (eqb (close_refused σ (many_wait 9 8 0) 100) 11)
    ∷ row "a close while one of eight records waits: 11"
    (eqb (close_refused σ (drop_table σ (drop_table σ (many_wait 9 3 0) 1) 2) 100) 11)
    ∷ row "with none waiting and one entered it closes" (eqb (close_refused σ (decided_both 0) 10) 0)
    ∷ row "with none waiting and none entered: 15" (eqb (close_refused σ (drop_table σ (drop_table σ (many_wait 9 2 0) 1) 2) 10) 15)
    ∷ []
