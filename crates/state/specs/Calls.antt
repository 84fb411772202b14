-- What telling where a pool stands comes to: the answer, which is the eight numbers of a table that is not refused.
-- Assumes nothing.
use Rattle.std.specs.Prelude.{◌≡◌, ℕ, Result, IfOk}
use Rattle.records.specs.Refusals.{fault_of}
use Rattle.records.specs.declared.Refusal.{Refusal}
use Rattle.rules.specs.Settings.{document01}
use Rattle.rules.specs.Table.{Lent}
use Rattle.rules.specs.State as rules
use Rattle.rules.specs.State.{state_refusal, state_of}
use Rattle.state.specs.declared.State.{State}

-- the eight numbers, in the order of the pointers
abbrev pub eight : ℕ → ℕ → ℕ → ℕ → ℕ → ℕ → ℕ → ℕ → rules.State
eight s o n q c d e w =
    record { servers = s; own = o; returns = n; least = q; closed = c; decided = d; entered = e; waiting = w }

-- those that are told
abbrev pub eight_of : State → rules.State
eight_of x = eight x.servers x.own x.returns x.least x.closed x.decided x.entered x.waiting

pub record Tells (T : Lent) (r : Result State Refusal) : Type 0 where
  pub answer_is : fault_of r ≡ state_refusal document01 T
  pub numbers_are : IfOk r (λ x. eight_of x ≡ state_of document01 T)
