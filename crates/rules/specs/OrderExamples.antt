-- Document 02, messages as they arrive: rows that compute. "The joined messages of a round may stand in any order, each server
-- exactly once .. A server twice or missing is still refused 12." proofs/Computed has them pass.
-- Assumes nothing.
use Rattle.std.specs.Prelude.{Bool, not, ◌&&◌, ℕ, ◌+◌, eqb, length, set, take, drop}
use mathlib.Core.List.{List, [], ◌∷◌, ◌++◌, flatten}
use Rattle.algebra.specs.Lists.{every}
use Rattle.slots.specs.declared.Slot.{Slot}
use Rattle.rules.specs.Making.{message}
use Rattle.rules.specs.Messages.{round_length, round_fault, first_sum, second_sum}
use Rattle.rules.specs.Table.{Lent, one_refused, one_table, one_bytes, two_refused, two_verdict, two_table}
use Rattle.rules.specs.Examples.{Row, row, σ, same, honest}
use Rattle.rules.specs.SoundExamples.{fresh}
use Rattle.rules.specs.TableExamples.{waiting, messages, summed_up, twos}

-- the messages of three servers for round one of the return 77: server j wrote 10 + j and 20 + j, with the challenges 4 and 9
abbrev pub from : ℕ → List ℕ
from j = message σ 34 77 j ((10 + j) ∷ (20 + j) ∷ 4 ∷ 9 ∷ [])

-- whether 12 is given at server 1, whose own message is the one that it wrote
abbrev pub to_one : List (List ℕ) → ℕ
to_one ms = round_fault σ 3 34 77 1 (from 1) (flatten ms)

abbrev pub six_orders : List (List (List ℕ))
six_orders =
    (from 0 ∷ from 1 ∷ from 2 ∷ [])
    ∷ (from 0 ∷ from 2 ∷ from 1 ∷ [])
    ∷ (from 1 ∷ from 0 ∷ from 2 ∷ [])
    ∷ (from 1 ∷ from 2 ∷ from 0 ∷ [])
    ∷ (from 2 ∷ from 0 ∷ from 1 ∷ [])
    ∷ (from 2 ∷ from 1 ∷ from 0 ∷ [])
    ∷ []

-- the own message with another element, its server byte kept
abbrev altered : List ℕ
altered = set (from 1) 6 99

unfoldable pub three_servers : List Row
three_servers =
    row "each of the six orders is taken" (every (λ ms. eqb (to_one ms) 0) six_orders)
    ∷ row "with the same sums"
    (every (λ ms. eqb (first_sum σ 34 3 (flatten ms)) 33 && eqb (second_sum σ 34 3 (flatten ms)) 63) six_orders)
    ∷ row "server 0 twice, server 2 missing: 12, wherever they stand"
    (eqb (to_one (from 0 ∷ from 0 ∷ from 1 ∷ [])) 12
    && (eqb (to_one (from 0 ∷ from 1 ∷ from 0 ∷ [])) 12 && eqb (to_one (from 1 ∷ from 0 ∷ from 0 ∷ [])) 12))
    ∷ row "the own message twice: 12" (eqb (to_one (from 1 ∷ from 0 ∷ from 1 ∷ [])) 12)
    ∷ row "the own message missing: 12" (eqb (to_one (from 0 ∷ from 2 ∷ from 0 ∷ [])) 12)
    ∷ row "a server missing, two messages: 12" (eqb (to_one (from 1 ∷ from 0 ∷ [])) 12)
    ∷ row "all three and one of them again: 12" (eqb (to_one (from 1 ∷ from 0 ∷ from 2 ∷ from 0 ∷ [])) 12)
    ∷ row "server byte S, first or last: 12"
    (eqb (to_one (from 3 ∷ from 1 ∷ from 0 ∷ [])) 12 && eqb (to_one (from 0 ∷ from 1 ∷ from 3 ∷ [])) 12)
    ∷ row "server byte 255: 12" (eqb (to_one (from 1 ∷ from 255 ∷ from 0 ∷ [])) 12)
    ∷ row "own message altered, at its own number's place or another: 12"
    (eqb (to_one (from 0 ∷ altered ∷ from 2 ∷ [])) 12
    && (eqb (to_one (altered ∷ from 0 ∷ from 2 ∷ [])) 12 && eqb (to_one (from 0 ∷ from 2 ∷ altered ∷ [])) 12))
    ∷ row "the own message altered beside the own one: 12" (eqb (to_one (from 1 ∷ altered ∷ from 0 ∷ [])) 12)
    ∷ []

-- two tables are the same
abbrev same_slot : Slot → Slot → Bool
same_slot x y = same (x.id ∷ x.stage ∷ x.r ∷ x.s ∷ x.d ∷ x.e ∷ []) (y.id ∷ y.stage ∷ y.r ∷ y.s ∷ y.d ∷ y.e ∷ [])

unfoldable pub same_slots : List Slot → List Slot → Bool
same_slots [] ys = eqb (length ys) 0
same_slots (x ∷ xs) [] = eqb 0 1
same_slots (x ∷ xs) (y ∷ ys) = same_slot x y && same_slots xs ys

abbrev pub same_table : Lent → Lent → Bool
same_table T U = same T.bytes U.bytes && (same_slots T.slots U.slots && same T.elements U.elements)

-- the messages of two servers, the second before the first
abbrev turned : ℕ → List ℕ → List ℕ
turned kind joined = drop (round_length σ kind) joined ++ take (round_length σ kind) joined

abbrev awaits_two : ℕ → Lent
awaits_two = summed_up fresh honest 77 4

abbrev last_messages : List ℕ
last_messages = twos fresh honest 77 4

unfoldable pub reversed : List Row
reversed =
    row "reversed in round one: taken at both servers"
    (eqb (one_refused σ (waiting 0) 77 (turned 34 messages) 14) 0 && eqb (one_refused σ (waiting 1) 77 (turned 34 messages) 14) 0)
    ∷ row "the message is that of server order" (same (one_bytes σ (waiting 0) 77 (turned 34 messages)) (one_bytes σ (waiting 0) 77 messages))
    ∷ row "and the table" (same_table (one_table σ (waiting 0) 77 (turned 34 messages)) (one_table σ (waiting 0) 77 messages))
    ∷ row "reversed in round two: taken at both servers"
    (eqb (two_refused σ (awaits_two 0) 77 (turned 35 last_messages)) 0 && eqb (two_refused σ (awaits_two 1) 77 (turned 35 last_messages)) 0)
    ∷ row "the verdict is that of server order" (two_verdict σ (awaits_two 1) (turned 35 last_messages))
    ∷ row "and the table" (same_table (two_table σ (awaits_two 1) 77 (turned 35 last_messages)) (two_table σ (awaits_two 1) 77 last_messages))
    ∷ row "own message altered at the other's place: 12" (eqb (one_refused σ (waiting 0) 77 (set (turned 34 messages) 28 255) 14) 12)
    ∷ row "another's sound message is not compared at the own number's place"
    (eqb (one_refused σ (waiting 0) 77 (set (turned 34 messages) 6 7) 14) 0)
    ∷ row "another sum makes another table"
    (not (same_table (one_table σ (waiting 0) 77 (set messages 28 7)) (one_table σ (waiting 0) 77 messages)))
    ∷ row "12 before 14" (eqb (one_refused σ (waiting 0) 77 (take 22 messages ++ take 22 messages) 13) 12)
    ∷ []
