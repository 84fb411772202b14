-- Document 02, same challenge, checked: "challenges that differ among round-one messages without a fault of 12 are refused 16, right
-- after it." What is claimed of the rule, `challenge_fault`. What becomes of the return is part 13 of demand 3 (WholeRun).
-- Assumes nothing.
use Rattle.std.specs.Prelude.{◌≡◌, List, ℕ, ◌<◌}
use Rattle.std.proofs.Math.Option.{some}
use Rattle.rules.specs.Settings.{Setting}
use Rattle.rules.specs.Messages.{r_in, s_in, challenge_fault}
use Rattle.rules.specs.Keyed.{find}
use Rattle.rules.specs.Server.{Waiting, Wait, awaitsOne, held_id, takes, ServerState, message_one, one_refusal}
use Rattle.rules.specs.AnyOrder.{SomeOrder}

-- two messages of round one have the same r and the same s
abbrev pub EqualPairs : Setting → List ℕ → List ℕ → Type 0
EqualPairs σ m n = (r_in σ m ≡ r_in σ n) × (s_in σ m ≡ s_in σ n)

-- CLAIM, of messages without a fault of 12, one of each server (AnyOrder): they pass exactly where all have one pair, and are refused 16
-- where two differ, whichever servers these are and wherever they stand
pub record SameChallenge (σ : Setting) : Type 0 where
  pub alike : (servers id own : ℕ) (mine joined : List ℕ) (s : SomeOrder σ servers 34 id own mine joined)
      → ((i j : ℕ) → i < servers → j < servers → EqualPairs σ (s.message i) (s.message j)) → challenge_fault σ servers joined ≡ 0
  pub differ : (servers id own : ℕ) (mine joined : List ℕ) (s : SomeOrder σ servers 34 id own mine joined) (i j : ℕ)
      → i < servers → j < servers → (EqualPairs σ (s.message i) (s.message j) → ⊥) → challenge_fault σ servers joined ≡ 16
  -- "right after it": so is a call of round one on a return that awaits it, whatever the room of its buffer
  pub call_refused : (k : ServerState) (ws : List Wait) (w : Waiting) (id : ℕ) (joined : List ℕ) (room : ℕ) → k.stage ≡ takes ws
      → find held_id id ws ≡ some (awaitsOne w)
      → (s : SomeOrder σ k.opened.servers 34 w.id k.opened.own (message_one σ k.opened w) joined) (i j : ℕ)
      → i < k.opened.servers → j < k.opened.servers → (EqualPairs σ (s.message i) (s.message j) → ⊥)
      → one_refusal σ k id joined room ≡ 16
