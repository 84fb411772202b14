-- What a call that joins totals messages comes to: its answer, and what the buffer holds then. A refusal leaves the buffer.
-- Assumes nothing.
use Rattle.std.specs.Prelude.{◌≡◌, cond, List, ℕ, ◌*◌, ◌≤◌, ◌<◌, eqb, length, Result}
use Rattle.algebra.specs.Lists.{tabulate}
use Rattle.words.specs.Bytes.{splice, bytes_of_all}
use Rattle.records.specs.Outcome.{Outcome, ok, refused, or_else}
use Rattle.records.specs.Refusals.{outcome_of}
use Rattle.records.specs.Answers.{answered, only_if}
use Rattle.records.specs.declared.Refusal.{Refusal}
use Rattle.rules.specs.Settings.{document01}
use Rattle.rules.specs.Columns.{published_in, columns_of, sheet_fault, servers_fault, returns_fault, totals_fault}
use Rattle.rules.specs.Joining.{join_refusal, join_count, join_bytes}
use Rattle.totals_message.specs.Totals.{total_at, SummableTotals}
use Rattle.joining.specs.declared.Joining.{Joining}

-- the accepted count and the bytes written, or the refusal
unfoldable pub joined_of : ℕ → ℕ → ℕ → Outcome Joining
joined_of refusal count written =
    cond (eqb refusal 0) (ok (record { accepted = count; written = written })) (refused refusal)

pub record Joins (servers : ℕ) (sheet : List ℕ) (returns : ℕ) (joined out : List ℕ) (a : Result Joining Refusal) (out' : List ℕ)
    : Type 0 where
  pub answer_is : outcome_of a
      ≡ joined_of (join_refusal document01 servers sheet returns joined (length out)) (join_count joined)
      (4 * published_in (columns_of sheet))
  pub out_is : out'
      ≡ only_if (join_refusal document01 servers sheet returns joined (length out))
      (splice out 0 (join_bytes document01 servers sheet joined)) out

-- ---- by the number of published entries
-- the bytes of the totals
unfoldable pub totals_of : ℕ → ℕ → List ℕ → List ℕ
totals_of servers published joined = bytes_of_all 4 (tabulate (total_at servers published joined) published)

-- messages whose totals can be summed, and a buffer with room for them
pub record Joinable (servers published : ℕ) (joined out : List ℕ) : Type 0 where
  pub small : published ≤ 256
  pub summable : (k : ℕ) → k < published → SummableTotals servers published k joined
  pub room : 4 * published ≤ length out

-- "S, sheet, N, 4": the refusal before any message is looked at
unfoldable pub pool_fault : ℕ → List ℕ → ℕ → ℕ
pool_fault servers sheet returns =
    or_else (servers_fault servers)
    (or_else (sheet_fault sheet) (or_else (returns_fault returns) (totals_fault document01 returns (columns_of sheet))))

-- the published entries of the sheet, or that refusal
unfoldable pub pooled : ℕ → List ℕ → ℕ → Outcome ℕ
pooled servers sheet returns = answered (pool_fault servers sheet returns) (published_in (columns_of sheet))

-- the bytes that the totals take, or the refusal
unfoldable pub judged : ℕ → List ℕ → ℕ → List ℕ → ℕ → Outcome ℕ
judged servers sheet returns joined room =
    answered (join_refusal document01 servers sheet returns joined room) (4 * published_in (columns_of sheet))
