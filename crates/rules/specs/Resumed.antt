-- Document 02, verdict first: "If one server stops between verdict and sum, its totals differ from the others'." What is claimed of
-- servers that stopped between verdict and entry and go on later: they enter the same ids as the others, and the totals join.
-- Assumes nothing.
use Rattle.std.specs.Prelude.{◌≡◌, true, List, [], ◌∷◌, ◌++◌, map, ℕ, ◌≤◌, ◌<◌, length, replicate}
use Rattle.algebra.specs.Lists.{All, In, Rearranged}
use Rattle.rules.specs.Settings.{Setting}
use Rattle.rules.specs.Server.{totals_length}
use Rattle.rules.specs.Ledger.{Call, enter, close, wrote, done, Pending, is_accepted, is_open, waiting, closing_message, ledger_answers}
use Rattle.rules.specs.Pools.{Pool, BytesIn, opened_at, ledger_at, accepted_at, entered_at, dropped_at, Conditions}
use Rattle.rules.specs.WholeRun.{Closed}

-- a pool with other lists of calls
abbrev pub with_calls : (σ : Setting) (𝓟 : Pool σ) (calls : ℕ → List Call)
    → ((i : ℕ) → i < 𝓟.servers → All BytesIn (calls i)) → Pool σ
with_calls σ 𝓟 calls bytes = record {
  servers = 𝓟.servers;
  sheet = 𝓟.sheet;
  returns = 𝓟.returns;
  least = 𝓟.least;
  buffers = 𝓟.buffers;
  calls = calls;
  sheet_bytes = 𝓟.sheet_bytes;
  buffer_bytes = 𝓟.buffer_bytes;
  call_bytes = bytes;
  some_server = 𝓟.some_server;
  opens = 𝓟.opens;
}

module _ (σ : Setting) (𝓟 : Pool σ) where
  -- the ids that server i has entered or has yet to enter
  abbrev pub to_enter : ℕ → List ℕ
  to_enter i = entered_at σ 𝓟 i ++ accepted_at σ 𝓟 i

  -- Servers, each closed or stopped between verdict and entry: what still waits anywhere is accepted, no id that waits for entry was
  -- dropped at another server, and Q are reached at one
  pub record Stopped : Type 0 where
    pub only_accepted : (i : ℕ) → i < 𝓟.servers → (p : Pending) → In p (waiting (ledger_at σ 𝓟 i).progress) → is_accepted p ≡ true
    pub none_dropped : (i j : ℕ) → i < 𝓟.servers → j < 𝓟.servers → (id : ℕ) → In id (accepted_at σ 𝓟 i)
        → In id (dropped_at σ 𝓟 j) → ⊥
    pub one : ℕ
    pub is_server : one < 𝓟.servers
    pub reached : 𝓟.least ≤ length (to_enter one)

  -- Server i goes on: it enters what waits for entry, and closes
  abbrev pub goes_on : ℕ → ℕ → List Call
  goes_on room i = map enter (accepted_at σ 𝓟 i) ++ (close room ∷ [])

  -- CLAIM, of the pool 𝓠 in which each server has gone on
  pub record Resumed (room : ℕ) (𝓠 : Pool σ) : Type 0 where
    -- where a server was open nothing is refused, and it writes its closing message
    pub answers : (i : ℕ) → i < 𝓟.servers → (ws : List Pending) → (ledger_at σ 𝓟 i).progress ≡ is_open ws
        → ledger_answers σ (opened_at σ 𝓟 i) (ledger_at σ 𝓟 i) (goes_on room i)
        ≡ replicate (length (accepted_at σ 𝓟 i)) done ++ (wrote (closing_message σ (opened_at σ 𝓟 i) (ledger_at σ 𝓠 i)) ∷ [])
    -- each has then entered what it had to enter, and these ids are the same at all servers
    pub enters : (i : ℕ) → i < 𝓟.servers → entered_at σ 𝓠 i ≡ to_enter i
    pub same : (i j : ℕ) → i < 𝓟.servers → j < 𝓟.servers → Rearranged (to_enter i) (to_enter j)
    -- all are closed, and their totals join
    pub conditions : Conditions σ 𝓠
    pub closed : Closed σ 𝓠

-- Servers that stopped between verdict and entry go on later: with room for the closing message, whichever servers stopped
abbrev pub Resumes : (σ : Setting) → Pool σ → Type 0
Resumes σ 𝓟 =
    Conditions σ 𝓟 → Stopped σ 𝓟 → (room : ℕ) → ((i : ℕ) → i < 𝓟.servers → totals_length σ (opened_at σ 𝓟 i) ≤ room)
    → (bytes : (i : ℕ) → i < 𝓟.servers → All BytesIn (𝓟.calls i ++ goes_on σ 𝓟 room i))
    → Resumed σ 𝓟 room (with_calls σ 𝓟 (λ i. 𝓟.calls i ++ goes_on σ 𝓟 room i) bytes)
