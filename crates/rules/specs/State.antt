-- Where a pool stands, as a server's table tells it: the refusal and the eight numbers of a call that changes nothing; then what is
-- promised of them after every list of calls, which proofs/Tables/Told proves.
-- Assumes nothing.
use Rattle.std.specs.Prelude.{◌≡◌, ℕ, length}
use Rattle.rules.specs.Settings.{Setting}
use Rattle.rules.specs.Server.{Stage, takes, closed}
use Rattle.rules.specs.WaitingList.{waiting_count}
use Rattle.rules.specs.Table.{Lent, opened_in, decided_in, entered_in, stage_in, table_fault}
use Rattle.rules.specs.Ledger.{Progress, is_open, is_closed, waiting}
use Rattle.rules.specs.Runs.{run_table}
use Rattle.rules.specs.Pools.{Pool, table_at, ledger_at, entered_at}

-- An unsound table is refused 11, as by every call on a table, and nothing else is refused
unfoldable pub state_refusal : Setting → Lent → ℕ
state_refusal σ T = table_fault σ T

-- The eight numbers
pub record State : Type 0 where
  -- S, and the server's own number
  pub servers : ℕ
  pub own : ℕ
  -- N, the most returns that are decided, and Q, the least that are entered before a close
  pub returns : ℕ
  pub least : ℕ
  -- whether the table is closed: 1 or 0
  pub closed : ℕ
  -- how many returns are decided, the entered ones among them, and how many are entered
  pub decided : ℕ
  pub entered : ℕ
  -- how many wait, in whichever stage
  pub waiting : ℕ

-- 1 for a table that is closed, 0 for one that takes calls
unfoldable pub closed_number : Stage → ℕ
closed_number (takes ws) = 0
closed_number closed = 1

-- as a table tells them
unfoldable pub state_of : Setting → Lent → State
state_of σ T =
    let o = opened_in σ T.bytes in
    record {
      servers = o.servers;
      own = o.own;
      returns = o.returns;
      least = o.least;
      closed = closed_number (stage_in σ T);
      decided = decided_in σ T.bytes;
      entered = entered_in σ T.bytes;
      waiting = waiting_count T.slots;
    }

-- ---- what is promised
-- 1 for a ledger that is closed, 0 for one that is open
abbrev pub ledger_closed : Progress → ℕ
ledger_closed (is_open ws) = 0
ledger_closed is_closed = 1

-- what server i's ledger tells after its list of calls, beside what the pool was opened with
unfoldable pub ledger_tells : (σ : Setting) → Pool σ → ℕ → State
ledger_tells σ 𝓟 i = record {
  servers = 𝓟.servers;
  own = i;
  returns = 𝓟.returns;
  least = 𝓟.least;
  closed = ledger_closed (ledger_at σ 𝓟 i).progress;
  decided = length (ledger_at σ 𝓟 i).decided;
  entered = length (entered_at σ 𝓟 i);
  waiting = length (waiting (ledger_at σ 𝓟 i).progress);
}

-- After its list of calls the table of server i is not refused, and tells what the ledger tells. No condition is needed
pub record ToldState (σ : Setting) (𝓟 : Pool σ) (i : ℕ) : Type 0 where
  pub not_refused : state_refusal σ (run_table σ (table_at σ 𝓟 i) (𝓟.calls i)) ≡ 0
  pub told : state_of σ (run_table σ (table_at σ 𝓟 i) (𝓟.calls i)) ≡ ledger_tells σ 𝓟 i
