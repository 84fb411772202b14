-- Document 02, small pools stay shut: rows that compute. "A table now opens with a least count Q, 1 to N, checked after N. Closing
-- with fewer than Q accepted gives no totals, and the pool stays open for more, up to N decided": accepted reads entered. proofs/Computed
-- has them pass.
-- SoundExamples has the tables with a Q within its range and past it, TableExamples the orders of refusals.
-- Assumes nothing.
use Rattle.std.specs.Prelude.{◌&&◌, List, [], ◌∷◌, ℕ, eqb}
use Rattle.rules.specs.Table.{Lent, least_in, open_refusal, opened_table, share_refused, drop_table, close_refused, close_table}
use Rattle.rules.specs.Table.{close_bytes}
use Rattle.rules.specs.Joining.{accepted_count}
use Rattle.rules.specs.Ledger.{close}
use Rattle.rules.specs.Runs.{run_table}
use Rattle.rules.specs.Examples.{Row, row, σ, honest, cheat}
use Rattle.rules.specs.TableExamples.{share_in, took, judged_by, entered_by, broken}

-- opening for two servers and N = 10 with Q
abbrev with_least : ℕ → ℕ
with_least least = open_refusal σ 2 0 (17 ∷ []) 10 least 1000 8 1000

-- the tables that two servers open for sheet 17, N and Q
abbrev open_with : ℕ → ℕ → ℕ → Lent
open_with returns q i = opened_table σ 2 i (17 ∷ []) returns q (record { bytes = []; slots = []; elements = [] })

-- server 0's table with N = 2 and Q: after one return entered; after another was entered, rejected or dropped; while one waits
abbrev one : ℕ → ℕ → Lent
one q = entered_by (open_with 2 q) honest 77 4

abbrev one_entered : ℕ → Lent
one_entered q = one q 0

abbrev two_entered : ℕ → Lent
two_entered q = entered_by (one q) honest 78 4 0

abbrev one_rejected : ℕ → Lent
one_rejected q = judged_by (one q) cheat 78 3 0

abbrev one_dropped : ℕ → Lent
one_dropped q = drop_table σ (took (one q) honest 78 4 0) 78

abbrev one_waits : ℕ → Lent
one_waits q = took (open_with 2 q) honest 77 4 0

-- the table after a close that is refused
abbrev after_close : ℕ → Lent
after_close q = run_table σ (one_entered q) (close 10 ∷ [])

unfoldable pub small_pools : List Row
small_pools =
    row "Q = 0: 2" (eqb (with_least 0) 2)
    ∷ row "Q = 1 and Q = N open" (eqb (with_least 1) 0 && eqb (with_least 10) 0)
    ∷ row "Q = N + 1: 2" (eqb (with_least 11) 2)
    ∷ row "Q = 65,537: 2" (eqb (with_least 65537) 2)
    ∷ row "a table holds Q = 300" (eqb (least_in σ (open_with 1024 300 0).bytes) 300)
    ∷ row "Q - 1 entered: 15" (eqb (close_refused σ (one_entered 2) 10) 15)
    ∷ row "then another is taken" (eqb (share_refused σ (after_close 2) (share_in honest 78 0) 4 9 22) 0)
    ∷ row "Q entered: closed" (eqb (close_refused σ (one_entered 1) 10) 0 && eqb (close_refused σ (two_entered 2) 10) 0)
    ∷ row "their count is 2" (eqb (accepted_count (close_bytes σ (two_entered 2))) 2)
    ∷ row "Q + 1 entered: closed" (eqb (close_refused σ (two_entered 1) 10) 0)
    ∷ row "a rejected or dropped return does not count: 15"
    (eqb (close_refused σ (one_rejected 2) 10) 15 && eqb (close_refused σ (one_dropped 2) 10) 15)
    ∷ row "and with N decided every share is 13" (eqb (share_refused σ (one_rejected 2) broken 4 9 22) 13)
    ∷ row "15 before 14" (eqb (close_refused σ (one_entered 2) 0) 15)
    ∷ row "11 before 15: one waits; closed; Q = N + 1, which no opening gives"
    (eqb (close_refused σ (one_waits 2) 0) 11
    && (eqb (close_refused σ (close_table σ (one_entered 2)) 0) 11 && eqb (close_refused σ (one_entered 3) 0) 11))
    ∷ []
