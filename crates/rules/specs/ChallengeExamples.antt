-- Document 02, same challenge, checked: rows that compute. "Round-one messages now carry r and s after e_i .. In refusal 12, r and s
-- there are elements too; challenges that differ among round-one messages without a fault of 12 are refused 16, right after it."
-- proofs/Computed has them pass.
-- Assumes nothing.
use Rattle.std.specs.Prelude.{Bool, not, ◌&&◌, ℕ, ◌+◌, eqb, length, set, take, drop}
use mathlib.Core.List.{List, [], ◌∷◌, ◌++◌, flatten}
use Rattle.algebra.specs.Lists.{every}
use Rattle.words.specs.Bytes.{bytes_of, splice}
use Rattle.records.specs.Outcome.{or_else}
use Rattle.rules.specs.Making.{message}
use Rattle.rules.specs.Messages.{challenge_fault}
use Rattle.rules.specs.Ledger.{round_one}
use Rattle.rules.specs.Table.{Lent, share_refused, share_bytes, one_refused, one_bytes, two_refused, drop_refused, drop_table, close_table}
use Rattle.rules.specs.Table.{entered_in}
use Rattle.rules.specs.Runs.{table_refusal, table_step}
use Rattle.rules.specs.Examples.{Row, row, P, σ, same, honest}
use Rattle.rules.specs.SoundExamples.{fresh}
use Rattle.rules.specs.TableExamples.{share_in, took, twos, waiting, messages}
use Rattle.rules.specs.OrderExamples.{from, six_orders, to_one, same_table}

-- a message of server j for round one of the return 77, with the challenges r and s
abbrev with : ℕ → ℕ → ℕ → List ℕ
with j r s = message σ 34 77 j ((10 + j) ∷ (20 + j) ∷ r ∷ s ∷ [])

-- 12 or else 16 at server 1 of three, which took the return with 4 and 9 (that a call has this order is below)
abbrev to_pair : List (List ℕ) → ℕ
to_pair ms = or_else (to_one ms) (challenge_fault σ 3 (flatten ms))

unfoldable pub three_pairs : List Row
three_pairs =
    row "one pair: each of the six orders is taken" (every (λ ms. eqb (to_pair ms) 0) six_orders)
    ∷ row "another r at one server, wherever it stands: 16"
    (eqb (to_pair (with 0 5 9 ∷ from 1 ∷ from 2 ∷ [])) 16
    && (eqb (to_pair (from 1 ∷ with 0 5 9 ∷ from 2 ∷ [])) 16 && eqb (to_pair (from 1 ∷ from 2 ∷ with 0 5 9 ∷ [])) 16))
    ∷ row "another s at one server, wherever it stands: 16"
    (eqb (to_pair (with 2 4 8 ∷ from 1 ∷ from 0 ∷ [])) 16
    && (eqb (to_pair (from 1 ∷ with 2 4 8 ∷ from 0 ∷ [])) 16 && eqb (to_pair (from 1 ∷ from 0 ∷ with 2 4 8 ∷ [])) 16))
    ∷ row "the two others alike, the own one not: 16" (eqb (to_pair (with 0 5 9 ∷ with 2 5 9 ∷ from 1 ∷ [])) 16)
    ∷ row "r and s exchanged: 16" (eqb (to_pair (with 0 9 4 ∷ from 1 ∷ from 2 ∷ [])) 16)
    ∷ row "r = 0 or s = 0 at another server: 16"
    (eqb (to_pair (with 0 0 9 ∷ from 1 ∷ from 2 ∷ [])) 16 && eqb (to_pair (from 0 ∷ from 1 ∷ with 2 4 0 ∷ [])) 16)
    ∷ row "p - 1 there is an element: 16"
    (eqb (to_pair (with 0 2147483646 9 ∷ from 1 ∷ from 2 ∷ [])) 16 && eqb (to_pair (from 0 ∷ from 1 ∷ with 2 4 2147483646 ∷ [])) 16)
    ∷ row "r = p or s = p there: 12"
    (eqb (to_pair (with 0 P 9 ∷ from 1 ∷ from 2 ∷ [])) 12 && eqb (to_pair (from 0 ∷ from 1 ∷ with 2 4 P ∷ [])) 12)
    ∷ row "r or s of the own message altered: 12"
    (eqb (to_pair (from 0 ∷ with 1 5 9 ∷ from 2 ∷ [])) 12 && eqb (to_pair (from 0 ∷ with 1 4 8 ∷ from 2 ∷ [])) 12)
    ∷ row "even where all have that pair: 12" (eqb (to_pair (with 0 5 9 ∷ with 1 5 9 ∷ with 2 5 9 ∷ [])) 12)
    ∷ row "another r and a server twice: 12" (eqb (to_pair (with 0 5 9 ∷ from 1 ∷ with 0 5 9 ∷ [])) 12)
    ∷ []

-- Server 0 took the return 77 with r = 4; server 1 typed 5. The messages that the two write
abbrev slipped : ℕ → Lent
slipped i = took fresh honest 77 (4 + i) i

abbrev unequal : List ℕ
unequal = share_bytes σ (fresh 0) (share_in honest 77 0) 4 9 ++ share_bytes σ (fresh 1) (share_in honest 77 1) 5 9

abbrev tried : ℕ → Lent
tried i = table_step σ (slipped i) (round_one 77 unequal 14) (table_refusal σ (slipped i) (round_one 77 unequal 14))

-- dropped, it is not entered
abbrev ended : ℕ → Bool
ended i = eqb (drop_refused σ (tried i) 77) 0 && eqb (entered_in σ (drop_table σ (tried i) 77).bytes) 0

unfoldable pub typing_slip : List Row
typing_slip =
    row "a message of round one has 22 bytes, one of round two 14"
    (eqb (length messages) 44 && eqb (length (one_bytes σ (waiting 0) 77 messages)) 14)
    ∷ row "r and s stand behind e_i" (same (drop 14 (take 22 messages)) (bytes_of 4 4 ++ bytes_of 4 9))
    ∷ row "16 at both servers" (eqb (one_refused σ (slipped 0) 77 unequal 14) 16 && eqb (one_refused σ (slipped 1) 77 unequal 14) 16)
    ∷ row "nothing is changed" (same_table (tried 0) (slipped 0) && same_table (tried 1) (slipped 1))
    ∷ row "with one pair the table moves on"
    (not (same_table (table_step σ (waiting 0) (round_one 77 messages 14) (table_refusal σ (waiting 0) (round_one 77 messages 14))) (waiting 0)))
    ∷ row "it still awaits round one: round two is 11" (eqb (two_refused σ (tried 0) 77 (twos fresh honest 77 4)) 11)
    ∷ row "dropping ends it, and it is entered nowhere" (every ended (0 ∷ 1 ∷ []))
    ∷ row "its id is used: 10" (eqb (share_refused σ (drop_table σ (tried 1) 77) (share_in honest 77 1) 4 9 22) 10)
    ∷ row "11 before 16" (eqb (one_refused σ (slipped 0) 78 unequal 14) 11 && eqb (one_refused σ (close_table σ (slipped 0)) 77 unequal 14) 11)
    ∷ row "12 before 16: another's r is p" (eqb (one_refused σ (slipped 0) 77 (splice unequal 36 (bytes_of 4 P)) 14) 12)
    ∷ row "12 before 16: the own r altered" (eqb (one_refused σ (slipped 0) 77 (set unequal 14 3) 14) 12)
    ∷ row "16 before 14" (eqb (one_refused σ (slipped 0) 77 unequal 13) 16 && eqb (one_refused σ (waiting 0) 77 messages 13) 14)
    ∷ row "the messages of document 01, of 14 bytes: 12"
    (eqb (one_refused σ (waiting 0) 77 (take 14 messages ++ take 14 (drop 22 messages)) 14) 12)
    ∷ []
