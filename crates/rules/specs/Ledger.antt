-- Document 01, "Whole runs": the ledger of one server, fed the arguments of opening and of each call, never the table. Document 02:
-- "Entering is one more call of the lists of demand 3".
-- Assumes nothing.
use Rattle.std.specs.Prelude.{Bool, true, false, cond, List, [], ◌∷◌, ◌++◌, map, ℕ, ◌%◌, eqb, length, get_or}
use Rattle.std.proofs.Math.Option.{Option, some, none}
use Rattle.algebra.specs.Lists.{sum_over}
use Rattle.rules.specs.Settings.{Setting}
use Rattle.rules.specs.Columns.{published_from}
use Rattle.rules.specs.Messages.{id_in, share_in, first_sum, second_sum, both_zero}
use Rattle.rules.specs.Keyed.{find, without, changed}
use Rattle.rules.specs.Server.{Opened, Waiting, Wait, awaitsOne, awaits_two, awaitsEntry, Stage, takes, closed, ServerState}
use Rattle.rules.specs.Server.{waiting_of, with_sums, message_one, message_two, totals_message}
use Rattle.rules.specs.Server.{share_refusal, one_refusal, two_refusal, enter_refusal, drop_refusal, close_refusal}

-- The calls of a list: a share with r and s, rounds one and two with the joined messages, an entry, a drop, a close. "Both rounds and
-- drop name an id", and so does an entry. `room` is the length of the output buffer that is lent
pub data Call : Type 0 where
  share : (m : List ℕ) (r s room : ℕ) → Call
  round_one : (id : ℕ) (joined : List ℕ) (room : ℕ) → Call
  round_two : (id : ℕ) (joined : List ℕ) → Call
  enter : (id : ℕ) → Call
  drop : (id : ℕ) → Call
  close : (room : ℕ) → Call

-- What a call hands back: its refusal; the message written by a share, round one or close; the verdict of round two;
-- nothing more for an entry or a drop
pub data Answer : Type 0 where
  refused : ℕ → Answer
  wrote : List ℕ → Answer
  judged : Bool → Answer
  done : Answer

-- "Share: note id, elements, r and s."
pub record Note : Type 0 where
  pub id : ℕ
  pub elements : List ℕ
  pub r : ℕ
  pub s : ℕ

-- "In the ledger, too, each id has its own stage": "await round one. Round one: note the sums d and e; await round two." "in the
-- ledger an accepted id waits until it becomes entered or dropped"
pub data Pending : Type 0 where
  waits_one : Note → Pending
  waitsTwo waitsEntry : Note → ℕ → ℕ → Pending

abbrev pub note_in : Pending → Note
note_in (waits_one n) = n
note_in (waitsTwo n d e) = n
note_in (waitsEntry n d e) = n

abbrev pub pending_id : Pending → ℕ
pending_id p = (note_in p).id

-- it has an accepted verdict
abbrev pub is_accepted : Pending → Bool
is_accepted (waits_one n) = false
is_accepted (waitsTwo n d e) = false
is_accepted (waitsEntry n d e) = true

-- the returns that wait, the latest first; or closed
pub data Progress : Type 0 where
  is_open : List Pending → Progress
  is_closed : Progress

abbrev pub waiting : Progress → List Pending
waiting (is_open ws) = ws
waiting is_closed = []

-- "A return is decided when accepted, rejected or dropped": accepted reads entered
pub data Decision : Type 0 where
  entered rejected dropped : Decision

pub record Decided : Type 0 where
  pub note : Note
  pub decision : Decision

-- the ledger; the returns decided stand in the order in which they were
pub record Ledger : Type 0 where
  pub progress : Progress
  pub decided : List Decided

-- "It starts idle and without ids": nothing waits
abbrev pub empty : Ledger
empty = record { progress = is_open []; decided = [] }

abbrev pub is_entered : Decision → Bool
is_entered entered = true
is_entered rejected = false
is_entered dropped = false

abbrev pub is_rejected : Decision → Bool
is_rejected entered = false
is_rejected rejected = true
is_rejected dropped = false

abbrev pub is_dropped : Decision → Bool
is_dropped entered = false
is_dropped rejected = false
is_dropped dropped = true

-- the notes of the returns whose decision passes t
unfoldable pub notes_with : (Decision → Bool) → List Decided → List Note
notes_with t [] = []
notes_with t (k ∷ ks) = cond (t k.decision) (k.note ∷ notes_with t ks) (notes_with t ks)

abbrev pub ids_of : List Note → List ℕ
ids_of ns = map (λ n. n.id) ns

abbrev pub notes_of : List Decided → List Note
notes_of ks = map (λ k. k.note) ks

module _ (σ : Setting) (o : Opened) where
  -- "A closing message holds the number of accepted ids and, for each published entry, the sum modulo p of the server's
  -- shares of it over these ids": "the closing message and joining speak of entered ids"
  unfoldable pub ledger_totals : List Note → List ℕ
  ledger_totals ns = map (λ e. sum_over (λ n. get_or n.elements e 0) ns % σ.modulus) (published_from 0 o.columns)

  unfoldable pub closing_message : Ledger → List ℕ
  closing_message l =
      let ns = notes_with is_entered l.decided in
      totals_message σ o (length ns) (ledger_totals ns)

  -- "its stage, ids and own messages told from the ledger"
  abbrev pub noted : Note → Waiting
  noted n = waiting_of σ o n.id n.elements n.r n.s

  unfoldable pub ledger_wait : Pending → Wait
  ledger_wait (waits_one n) = awaitsOne (noted n)
  ledger_wait (waitsTwo n d e) = awaits_two (with_sums (noted n) d e)
  ledger_wait (waitsEntry n d e) = awaitsEntry (with_sums (noted n) d e)

  unfoldable pub ledger_stage : Progress → Stage
  ledger_stage (is_open ws) = takes (map ledger_wait ws)
  ledger_stage is_closed = closed

  unfoldable pub ledger_state : Ledger → ServerState
  ledger_state l = record {
    opened = o;
    stage = ledger_stage l.progress;
    used = ids_of (notes_of l.decided);
    entered = length (notes_with is_entered l.decided);
    totals = ledger_totals (notes_with is_entered l.decided);
  }

  -- the refusal of a call, told from the ledger
  unfoldable pub refusal_of : Ledger → Call → ℕ
  refusal_of l (share m r s room) = share_refusal σ (ledger_state l) m r s room
  refusal_of l (round_one id joined room) = one_refusal σ (ledger_state l) id joined room
  refusal_of l (round_two id joined) = two_refusal σ (ledger_state l) id joined
  refusal_of l (enter id) = enter_refusal (ledger_state l) id
  refusal_of l (drop id) = drop_refusal (ledger_state l) id
  refusal_of l (close room) = close_refusal σ (ledger_state l) room

  -- the return that waits under an id is decided
  unfoldable pub decide_as : ℕ → Option Pending → List Pending → List Decided → Decision → Ledger
  decide_as id none ws ds d = record { progress = is_open ws; decided = ds }
  decide_as id (some w) ws ds d = record {
    progress = is_open (without pending_id id ws);
    decided = ds ++ (record { note = note_in w; decision = d } ∷ []);
  }

  abbrev pub decide_waiting : Ledger → ℕ → Decision → Ledger
  decide_waiting l id d = decide_as id (find pending_id id (waiting l.progress)) (waiting l.progress) l.decided d

  abbrev pub note_of : List ℕ → ℕ → ℕ → Note
  note_of m r s = record { id = id_in m; elements = share_in σ o.columns m; r = r; s = s }

  unfoldable pub sums_noted : ℕ → ℕ → Pending → Pending
  sums_noted d e (waits_one n) = waitsTwo n d e
  sums_noted d e (waitsTwo n x y) = waitsTwo n x y
  sums_noted d e (waitsEntry n x y) = waitsEntry n x y

  unfoldable pub accept_noted : Pending → Pending
  accept_noted (waits_one n) = waits_one n
  accept_noted (waitsTwo n d e) = waitsEntry n d e
  accept_noted (waitsEntry n d e) = waitsEntry n d e

  -- the return that waits under an id with what is noted of it besides
  abbrev pub change_waiting : Ledger → ℕ → (Pending → Pending) → Ledger
  change_waiting l id f = record { progress = is_open (changed pending_id id f (waiting l.progress)); decided = l.decided }

  -- a call that is not refused. "Round two now only gives the verdict. An accepted return then waits until it is entered or dropped ..
  -- A rejected one is decided straight away"
  unfoldable pub ledger_after : Ledger → Call → Ledger
  ledger_after l (share m r s room) = record {
    progress = is_open (waits_one (note_of m r s) ∷ waiting l.progress);
    decided = l.decided;
  }
  ledger_after l (round_one id joined room) =
      change_waiting l id (sums_noted (first_sum σ 34 o.servers joined) (second_sum σ 34 o.servers joined))
  ledger_after l (round_two id joined) =
      cond (both_zero σ o.servers joined) (change_waiting l id accept_noted) (decide_waiting l id rejected)
  ledger_after l (enter id) = decide_waiting l id entered
  ledger_after l (drop id) = decide_waiting l id dropped
  ledger_after l (close room) = record { progress = is_closed; decided = l.decided }

  -- what it hands back: the messages are those that Judging works out from what is noted
  abbrev pub second_answer : Note → List ℕ → List ℕ
  second_answer n joined = message_two σ o (with_sums (noted n) (first_sum σ 34 o.servers joined) (second_sum σ 34 o.servers joined))

  unfoldable pub second_message : Option Pending → List ℕ → List ℕ
  second_message none joined = []
  second_message (some w) joined = second_answer (note_in w) joined

  unfoldable pub answer_of : Ledger → Call → Answer
  answer_of l (share m r s room) = wrote (message_one σ o (noted (note_of m r s)))
  answer_of l (round_one id joined room) = wrote (second_message (find pending_id id (waiting l.progress)) joined)
  answer_of l (round_two id joined) = judged (both_zero σ o.servers joined)
  answer_of l (enter id) = done
  answer_of l (drop id) = done
  answer_of l (close room) = wrote (closing_message l)

  -- "A call that the rules refuse leaves it as it was."
  abbrev pub ledger_step : Ledger → Call → ℕ → Ledger
  ledger_step l c fault = cond (eqb fault 0) (ledger_after l c) l

  abbrev pub ledger_says : Ledger → Call → ℕ → Answer
  ledger_says l c fault = cond (eqb fault 0) (answer_of l c) (refused fault)

  -- what a list of calls comes to, from a ledger: the ledger after it, and the answers in their order
  unfoldable pub run_ledger : Ledger → List Call → Ledger
  run_ledger l [] = l
  run_ledger l (c ∷ cs) = run_ledger (ledger_step l c (refusal_of l c)) cs

  unfoldable pub ledger_answers : Ledger → List Call → List Answer
  ledger_answers l [] = []
  ledger_answers l (c ∷ cs) = ledger_says l c (refusal_of l c) ∷ ledger_answers (ledger_step l c (refusal_of l c)) cs
