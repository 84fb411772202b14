-- After a list of calls the table stands beside the ledger: so it is sound, and what its header, its counts and its records say is what
-- the ledger tells. Each number is one field of the two standing side by side. Assumes nothing.
use mathlib.Core.Path.{◌≡◌, refl, ap, ◌∙◌}
use mathlib.Core.List.{List}
use Prim.Native.Nat.{ℕ, ◌<◌}
use lib.ListN.{length}
use Rattle.rules.specs.Settings.{Setting, Facts, document01}
use Rattle.rules.specs.Server.{Opened, Wait, ServerState}
use Rattle.rules.specs.WaitingList.{waiting_count, waits_in}
use Rattle.rules.specs.Table.{Lent, decided_in, stage_in, table_state}
use Rattle.rules.specs.Ledger.{Progress, is_open, is_closed, waiting, Ledger}
use Rattle.rules.specs.Runs.{run_table}
use Rattle.rules.specs.Pools.{Pool, opened_at, table_at, ledger_at}
use Rattle.rules.specs.State.{state_refusal, closed_number, state_of, ledger_closed, ledger_tells, ToldState}
use Rattle.rules.proofs.Computed.Facts.{document01_facts}
use Rattle.rules.proofs.Tables.Parts.{decided_are}
use Rattle.rules.proofs.Tables.State.{stage_at}
use Rattle.rules.proofs.Tables.Listed.{as_many}
use Rattle.rules.proofs.Tables.Invariant.{Beside, stage_of, opened_same, beside_known, beside_sound}
use Rattle.rules.proofs.Tables.Opens.{open_facts, table_after_lem}
use Rattle.rules.proofs.Tables.Erased.{counted}

closed_at : (q : Progress) (ws : List Wait) → closed_number (stage_at (stage_of q) ws) ≡ ledger_closed q
unfolding closed_number stage_at
closed_at (is_open ps) ws = refl
closed_at is_closed ws = refl

module _ (σ : Setting) (o : Opened) (T : Lent) (l : Ledger) (b : Beside σ o T l) where
  closed_told : closed_number (stage_in σ T) ≡ ledger_closed l.progress
  unfolding table_state
  closed_told =
      ap (λ (k : ServerState). closed_number k.stage) (beside_known σ o T l b)
      ∙ closed_at l.progress (waits_in o.columns T.slots T.elements)

  decided_told : decided_in σ T.bytes ≡ length l.decided
  decided_told = ap (decided_in σ) b.is ∙ decided_are σ o.columns b.parts b.sized ∙ b.tells.decided_is

  waiting_told : waiting_count T.slots ≡ length (waiting l.progress)
  waiting_told = as_many σ o (waiting l.progress) T.slots T.elements b.listed

pub state_told : (σ : Setting) → Facts σ → (𝓟 : Pool σ) → (i : ℕ) → i < 𝓟.servers → ToldState σ 𝓟 i
unfolding state_refusal state_of ledger_tells
state_told σ facts 𝓟 i h =
    let o = opened_at σ 𝓟 i in
    let T = run_table σ (table_at σ 𝓟 i) (𝓟.calls i) in
    let b = table_after_lem σ facts 𝓟 i h in
    let same = opened_same σ o T (ledger_at σ 𝓟 i) b in
    record {
      not_refused =
          beside_sound σ o T (ledger_at σ 𝓟 i) b 𝓟.sheet
          (open_facts σ facts 𝓟.servers i 𝓟.sheet 𝓟.returns 𝓟.least (𝓟.buffers i) (𝓟.opens i h));
      told = λ t. record {
        servers = (same t).servers;
        own = (same t).own;
        returns = (same t).returns;
        least = (same t).least;
        closed = closed_told σ o T (ledger_at σ 𝓟 i) b t;
        decided = decided_told σ o T (ledger_at σ 𝓟 i) b t;
        entered = counted σ facts 𝓟 i h t;
        waiting = waiting_told σ o T (ledger_at σ 𝓟 i) b t;
      };
    }

-- at the setting of document 01
pub document01_state_told : (𝓟 : Pool document01) → (i : ℕ) → i < 𝓟.servers → ToldState document01 𝓟 i
document01_state_told = state_told document01 document01_facts
