-- Document 02, messages as they arrive: "The joined messages of a round may stand in any order, each server exactly once. Every
-- joined run that was taken before has the same answer." What is claimed of the rule for joined messages, `round_fault`.
-- Assumes nothing.
use Rattle.std.specs.Prelude.{◌≡◌, true, ◌&&◌, ℕ, ◌*◌, ◌<◌, eqb, leb, length}
use mathlib.Core.List.{List, map, flatten}
use Rattle.algebra.specs.Lists.{All, Rearranged, every, count_from}
use Rattle.words.specs.Bytes.{same_bytes}
use Rattle.records.specs.Outcome.{or_else}
use Rattle.rules.specs.Settings.{Setting}
use Rattle.rules.specs.Columns.{check}
use Rattle.rules.specs.Messages.{server_in, round_length, place_in, server_at, round_sound, round_fault, challenge_fault}
use Rattle.rules.specs.Keyed.{find}
use Rattle.rules.specs.Server.{ServerState, held_id, message_one, message_two, while_open, while_one, while_two}
use Rattle.rules.specs.Ledger.{Call, share, round_one, round_two, enter, drop, close, Answer}
use Rattle.rules.specs.Table.{Lent, table_fault, table_state}
use Rattle.rules.specs.Runs.{table_refusal, table_says, table_step}

-- What was taken before, of messages as long as they are today. Document 01: "Joined messages stand in server order": the message at
-- place i is server i's, and the own one stands at the place of the own number
unfoldable pub fault_in_order : Setting → ℕ → ℕ → ℕ → ℕ → List ℕ → List ℕ → ℕ
fault_in_order σ servers kind id own mine joined =
    check
    (eqb (length joined) (round_length σ kind * servers)
    && (every (λ i. round_sound σ servers kind id (place_in σ kind joined i) && eqb (server_at σ kind joined i) i) (count_from 0 servers)
    && same_bytes (place_in σ kind joined own) mine)) 12

-- the refusals of both rounds by it, as in Server
unfoldable pub one_in_order : Setting → ServerState → ℕ → List ℕ → ℕ → ℕ
one_in_order σ k id joined room =
    let o = k.opened in
    while_open k.stage
    (λ ws. while_one (find held_id id ws)
    (λ w. or_else (fault_in_order σ o.servers 34 w.id o.own (message_one σ o w) joined)
    (or_else (challenge_fault σ o.servers joined) (check (leb (round_length σ 35) room) 14))))

unfoldable pub two_in_order : Setting → ServerState → ℕ → List ℕ → ℕ
two_in_order σ k id joined =
    let o = k.opened in
    while_open k.stage
    (λ ws. while_two (find held_id id ws) (λ w. fault_in_order σ o.servers 35 w.id o.own (message_two σ o w) joined))

-- and of each call on a table
unfoldable pub refusal_in_order : Setting → Lent → Call → ℕ
refusal_in_order σ T (share m r s room) = table_refusal σ T (share m r s room)
refusal_in_order σ T (round_one id joined room) = or_else (table_fault σ T) (one_in_order σ (table_state σ T) id joined room)
refusal_in_order σ T (round_two id joined) = or_else (table_fault σ T) (two_in_order σ (table_state σ T) id joined)
refusal_in_order σ T (enter id) = table_refusal σ T (enter id)
refusal_in_order σ T (drop id) = table_refusal σ T (drop id)
refusal_in_order σ T (close room) = table_refusal σ T (close room)

-- what a call on a table hands back, and the table that it leaves
abbrev pub says : Setting → Lent → Call → Answer
says σ T c = table_says σ T c (table_refusal σ T c)

abbrev pub leaves : Setting → Lent → Call → Lent
leaves σ T c = table_step σ T c (table_refusal σ T c)

-- two calls come to the same: answer, message, verdict and all parts of the table
pub record SameCall (σ : Setting) (T : Lent) (c d : Call) : Type 0 where
  pub answer : says σ T c ≡ says σ T d
  pub table : leaves σ T c ≡ leaves σ T d

-- One sound message of each of S servers for a round and an id, the own one unaltered, in some order one after another
pub record SomeOrder (σ : Setting) (servers kind id own : ℕ) (mine joined : List ℕ) : Type 0 where
  pub message : ℕ → List ℕ
  pub long : (j : ℕ) → j < servers → length (message j) ≡ round_length σ kind
  pub sound : (j : ℕ) → j < servers → round_sound σ servers kind id (message j) ≡ true
  pub names : (j : ℕ) → j < servers → server_in (message j) ≡ j
  pub own_kept_lem : own < servers → message own ≡ mine
  pub messages : List (List ℕ)
  pub order : Rearranged messages (map message (count_from 0 servers))
  pub stand : joined ≡ flatten messages

-- CLAIM
pub record AnyOrder (σ : Setting) : Type 0 where
  -- 1. "Every joined run that was taken before has the same answer": on any table, a call that was not refused hands back what
  -- it did and leaves the table that it did
  pub before_answer : (T : Lent) (c : Call) → refusal_in_order σ T c ≡ 0 → table_says σ T c (refusal_in_order σ T c) ≡ says σ T c
  pub before_table : (T : Lent) (c : Call) → refusal_in_order σ T c ≡ 0 → table_step σ T c (refusal_in_order σ T c) ≡ leaves σ T c
  -- 2. "in any order": messages that are rearranged have the same answer and leave the same table, refused ones too
  pub one : (T : Lent) (id room : ℕ) (ms ns : List (List ℕ)) → All (λ m. length m ≡ round_length σ 34) ms → Rearranged ms ns
      → SameCall σ T (round_one id (flatten ms) room) (round_one id (flatten ns) room)
  pub two : (T : Lent) (id : ℕ) (ms ns : List (List ℕ)) → All (λ m. length m ≡ round_length σ 35) ms → Rearranged ms ns
      → SameCall σ T (round_two id (flatten ms)) (round_two id (flatten ns))
  -- 3. "each server exactly once": a run has no fault of 12 exactly when it is some order of one sound message of each server, the
  -- own one unaltered
  pub taken : (servers kind id own : ℕ) (mine joined : List ℕ) → round_fault σ servers kind id own mine joined ≡ 0
      → SomeOrder σ servers kind id own mine joined
  pub takes : (servers kind id own : ℕ) (mine joined : List ℕ) → SomeOrder σ servers kind id own mine joined
      → round_fault σ servers kind id own mine joined ≡ 0
