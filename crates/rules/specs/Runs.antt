-- Document 01, "Whole runs": what a list of calls comes to on a server's table. "A list starts from the table that opening
-- gave. Each call gets the table as the last one left it": all its three parts.
-- Assumes nothing.
use Rattle.std.specs.Prelude.{cond, List, [], ◌∷◌, ℕ, eqb}
use Rattle.rules.specs.Settings.{Setting}
use Rattle.rules.specs.Ledger.{Call, share, round_one, round_two, enter, drop, close, Answer, refused, wrote, judged, done}
use Rattle.rules.specs.Table.{Lent, share_refused, share_table, share_bytes, one_refused, one_table, one_bytes}
use Rattle.rules.specs.Table.{two_refused, two_verdict, two_table, enter_refused, enter_table, drop_refused, drop_table}
use Rattle.rules.specs.Table.{close_refused, close_table, close_bytes}

module _ (σ : Setting) where
  unfoldable pub table_refusal : Lent → Call → ℕ
  table_refusal T (share m r s room) = share_refused σ T m r s room
  table_refusal T (round_one id joined room) = one_refused σ T id joined room
  table_refusal T (round_two id joined) = two_refused σ T id joined
  table_refusal T (enter id) = enter_refused σ T id
  table_refusal T (drop id) = drop_refused σ T id
  table_refusal T (close room) = close_refused σ T room

  -- the table after a call that is not refused
  unfoldable pub table_after : Lent → Call → Lent
  table_after T (share m r s room) = share_table σ T m r s
  table_after T (round_one id joined room) = one_table σ T id joined
  table_after T (round_two id joined) = two_table σ T id joined
  table_after T (enter id) = enter_table σ T id
  table_after T (drop id) = drop_table σ T id
  table_after T (close room) = close_table σ T

  -- what it hands back
  unfoldable pub table_answer : Lent → Call → Answer
  table_answer T (share m r s room) = wrote (share_bytes σ T m r s)
  table_answer T (round_one id joined room) = wrote (one_bytes σ T id joined)
  table_answer T (round_two id joined) = judged (two_verdict σ T joined)
  table_answer T (enter id) = done
  table_answer T (drop id) = done
  table_answer T (close room) = wrote (close_bytes σ T)

  -- "every lent buffer and the table keep what they held" at a refusal
  abbrev pub table_step : Lent → Call → ℕ → Lent
  table_step T c fault = cond (eqb fault 0) (table_after T c) T

  abbrev pub table_says : Lent → Call → ℕ → Answer
  table_says T c fault = cond (eqb fault 0) (table_answer T c) (refused fault)

  unfoldable pub run_table : Lent → List Call → Lent
  run_table T [] = T
  run_table T (c ∷ cs) = run_table (table_step T c (table_refusal T c)) cs

  unfoldable pub table_answers : Lent → List Call → List Answer
  table_answers T [] = []
  table_answers T (c ∷ cs) = table_says T c (table_refusal T c) ∷ table_answers (table_step T c (table_refusal T c)) cs
