-- Document 01, "Whole runs": S servers, each with its own list of calls. What the lists come to, the conditions, and what is said of one
-- return.
-- Assumes nothing.
use Rattle.std.specs.Prelude.{◌≡◌, ◌⊎◌, Bool, true, false, cond, List, [], ◌∷◌, ◌++◌, map, ℕ, ◌<◌, eqb, length, get_or}
use Rattle.algebra.specs.Lists.{All, In, count_from}
use Rattle.algebra.specs.Modulo.{modulo}
use Rattle.words.specs.Bytes.{all_below}
use Rattle.rules.specs.Settings.{Setting}
use Rattle.rules.specs.Columns.{Column, columns_of}
use Rattle.rules.specs.Run.{Valid}
use Rattle.rules.specs.Values.{legal_values}
use Rattle.rules.specs.Judging.{added_up, lets_in}
use Rattle.rules.specs.Making.{made_share, random_count}
use Rattle.rules.specs.Messages.{server_in, place_in}
use Rattle.rules.specs.Server.{Opened}
use Rattle.rules.specs.Table.{Lent, open_refusal, opened_table}
use Rattle.rules.specs.Ledger.{Call, share, round_one, round_two, enter, drop, close, Answer, wrote, judged, done}
use Rattle.rules.specs.Ledger.{Note, Pending, waits_one, note_in, pending_id, is_accepted, is_closed, waiting, dropped, Decided, Ledger}
use Rattle.rules.specs.Ledger.{is_entered, is_rejected, is_dropped, notes_with, ids_of, notes_of}
use Rattle.rules.specs.Ledger.{refusal_of, ledger_step, ledger_says, run_ledger, ledger_answers, empty}
use Rattle.rules.specs.Keyed.{under, those}

-- the bytes of a call are bytes
abbrev pub Bytes : List ℕ → Type 0
Bytes s = All (λ b. b < 256) s

abbrev pub BytesIn : Call → Type 0
BytesIn (share m r s room) = Bytes m
BytesIn (round_one id joined room) = Bytes joined
BytesIn (round_two id joined) = Bytes joined
BytesIn (enter id) = Unit {0}
BytesIn (drop id) = Unit {0}
BytesIn (close room) = Unit {0}

-- the refusal of opening, by the buffers that it is lent
abbrev pub opens_in : Setting → ℕ → ℕ → List ℕ → ℕ → ℕ → Lent → ℕ
opens_in σ servers own sheet returns least B =
    open_refusal σ servers own sheet returns least (length B.bytes) (length B.slots) (length B.elements)

-- "Servers are opened alike when S, sheet and N are the same and their numbers are 0 to S - 1, one each." "Servers opened alike
-- have the same Q too." Server i's table is opened in the three buffers i, without refusal, and has the list `calls i`. There is a
-- server; opening then says that there are 2 to 8
pub record Pool (σ : Setting) : Type 0 where
  pub servers : ℕ
  pub sheet : List ℕ
  pub returns : ℕ
  pub least : ℕ
  pub buffers : ℕ → Lent
  pub calls : ℕ → List Call
  pub sheet_bytes : Bytes sheet
  pub buffer_bytes : (i : ℕ) → i < servers → Bytes (buffers i).bytes
  pub call_bytes : (i : ℕ) → i < servers → All BytesIn (calls i)
  pub some_server : 0 < servers
  pub opens : (i : ℕ) → i < servers → opens_in σ servers i sheet returns least (buffers i) ≡ 0

module _ (σ : Setting) (𝓟 : Pool σ) where
  abbrev pub columns : List Column
  columns = columns_of 𝓟.sheet

  abbrev pub opened_at : ℕ → Opened
  opened_at i = record { servers = 𝓟.servers; own = i; columns = columns; returns = 𝓟.returns; least = 𝓟.least }

  abbrev pub table_at : ℕ → Lent
  table_at i = opened_table σ 𝓟.servers i 𝓟.sheet 𝓟.returns 𝓟.least (𝓟.buffers i)

  -- what server i's list comes to
  abbrev pub ledger_at : ℕ → Ledger
  ledger_at i = run_ledger σ (opened_at i) empty (𝓟.calls i)

  abbrev pub answers_at : ℕ → List Answer
  answers_at i = ledger_answers σ (opened_at i) empty (𝓟.calls i)

  -- the ids that are accepted there and wait for entry; entered; rejected; dropped
  abbrev pub accepted_at : ℕ → List ℕ
  accepted_at i = map pending_id (those is_accepted (waiting (ledger_at i).progress))

  abbrev pub entered_at : ℕ → List ℕ
  entered_at i = ids_of (notes_with is_entered (ledger_at i).decided)

  abbrev pub rejected_at : ℕ → List ℕ
  rejected_at i = ids_of (notes_with is_rejected (ledger_at i).decided)

  abbrev pub dropped_at : ℕ → List ℕ
  dropped_at i = ids_of (notes_with is_dropped (ledger_at i).decided)

-- every share that a ledger notes
unfoldable pub notes_in : Ledger → List Note
notes_in l = notes_of l.decided ++ map note_in (waiting l.progress)

-- the share noted under an id; one without elements where there is none
unfoldable pub note_under : ℕ → List Note → Note
note_under id ns = under (λ n. n.id) (record { id = id; elements = []; r = 0; s = 0 }) id ns

-- the messages that stand in a joined run
abbrev pub messages_in : Setting → ℕ → ℕ → List ℕ → List (List ℕ)
messages_in σ servers kind joined = map (place_in σ kind joined) (count_from 0 servers)

-- and those that stand in a call
module _ (σ : Setting) (o : Opened) where
  unfoldable pub call_messages : Call → List (List ℕ)
  call_messages (share m r s room) = []
  call_messages (round_one id joined room) = messages_in σ o.servers 34 joined
  call_messages (round_two id joined) = messages_in σ o.servers 35 joined
  call_messages (enter id) = []
  call_messages (drop id) = []
  call_messages (close room) = []

  -- and in the calls of a list that are not refused
  unfoldable pub handed_in : Ledger → List Call → List (List ℕ)
  handed_in l [] = []
  handed_in l (c ∷ cs) =
      cond (eqb (refusal_of σ o l c) 0) (call_messages c) [] ++ handed_in (ledger_step σ o l c (refusal_of σ o l c)) cs

  -- somewhere in a list of calls, from a ledger on, a call had this answer
  pub record AnsweredIn (l : Ledger) (cs : List Call) (c : Call) (a : Answer) : Type 0 where
    pub before : List Call
    pub after : List Call
    pub among : cs ≡ before ++ (c ∷ after)
    pub answered : let m = run_ledger σ o l before in ledger_says σ o m c (refusal_of σ o m c) ≡ a

module _ (σ : Setting) (𝓟 : Pool σ) where
  abbrev pub notes_at : ℕ → List Note
  notes_at i = notes_in (ledger_at σ 𝓟 i)

  -- "A return is the S shares noted under one id."
  abbrev pub return_of : ℕ → ℕ → ℕ → ℕ
  return_of id i e = get_or (note_under id (notes_at i)).elements e 0

  -- "Its added-up entries are their sums modulo p; it keeps its form when they are a valid list."
  abbrev pub added_entry : ℕ → ℕ → ℕ
  added_entry id = added_up (modulo σ.modulus) σ (columns σ 𝓟) 𝓟.servers (return_of id)

  abbrev pub KeepsForm : ℕ → Type 0
  KeepsForm id = Valid (modulo σ.modulus) σ (columns σ 𝓟) (added_entry id)

  -- "An id has one pair when every share taken under it came with the same r and s."
  abbrev pub OnePair : ℕ → ℕ → ℕ → Type 0
  OnePair id r s =
      (i : ℕ) → i < 𝓟.servers → (n : Note) → In n (notes_at i) → n.id ≡ id → (n.r ≡ r) × (n.s ≡ s)

  -- "Round messages are unaltered when each one in a round call that is not refused is the one that the named server wrote
  -- for that id and round": a message holds its id, its round and its server, at whatever place it stands
  abbrev pub Unaltered : Type 0
  Unaltered =
      (i : ℕ) → i < 𝓟.servers → (m : List ℕ) → In m (handed_in σ (opened_at σ 𝓟 i) empty (𝓟.calls i))
      → In (wrote m) (answers_at σ 𝓟 (server_in m))

  -- "Entries, like drops, reach every server in the same order: no id dropped at one server is entered at another, whatever its
  -- verdict there."
  pub record Conditions : Type 0 where
    pub unaltered : Unaltered
    pub same_drops : (i j : ℕ) → i < 𝓟.servers → j < 𝓟.servers → (id : ℕ) → In id (dropped_at σ 𝓟 i)
        → In id (entered_at σ 𝓟 j) → ⊥

  -- "delivered whole when each server noted the share that making wrote for it"
  pub record DeliveredWhole (id : ℕ) : Type 0 where
    pub values : List ℕ
    pub random : List ℕ
    pub legal : legal_values (columns σ 𝓟) values ≡ true
    pub enough : length random ≡ random_count 𝓟.servers (columns σ 𝓟)
    pub below : all_below σ.modulus random ≡ true
    pub noted : (i : ℕ) → i < 𝓟.servers
        → (note_under id (notes_at i)).elements ≡ made_share σ (columns σ 𝓟) 𝓟.servers values random i

  -- somewhere in server i's list a call had this answer
  abbrev pub Answered : ℕ → Call → Answer → Type 0
  Answered i c a = AnsweredIn σ (opened_at σ 𝓟 i) empty (𝓟.calls i) c a

  -- "It is judged to the end at each server that took a round two on it without refusal": server i answered a round two on the id by
  -- this verdict
  pub record JudgedToEnd (i id : ℕ) (verdict : Bool) : Type 0 where
    pub joined : List ℕ
    pub by : Answered i (round_two id joined) (judged verdict)

  -- each server took a share under the id, all with one pair, and the verdict is whether that pair lets the return in
  pub record JudgedByPair (id : ℕ) (verdict : Bool) : Type 0 where
    pub r : ℕ
    pub s : ℕ
    pub taken : (i : ℕ) → i < 𝓟.servers → In id (ids_of (notes_at i))
    pub one_pair : OnePair id r s
    pub verdict_is : verdict ≡ lets_in σ (columns σ 𝓟) 𝓟.servers (return_of id) r s

  -- the refusal of a call that server i gets next
  abbrev pub refusal_at : ℕ → Call → ℕ
  refusal_at i c = refusal_of σ (opened_at σ 𝓟 i) (ledger_at σ 𝓟 i) c

  -- "Round two now only gives the verdict": what server i's verdicts come to, and its entries and drops
  pub record VerdictFirst (i : ℕ) : Type 0 where
    -- an id that is accepted, entered or rejected was judged so; "An accepted return then waits until it is entered or dropped .. A
    -- rejected one is decided straight away"
    pub accepted_judged : (id : ℕ) → In id (accepted_at σ 𝓟 i) → JudgedToEnd i id true
    pub entered_judged : (id : ℕ) → In id (entered_at σ 𝓟 i) → JudgedToEnd i id true
    pub rejected_judged : (id : ℕ) → In id (rejected_at σ 𝓟 i) → JudgedToEnd i id false
    pub judged_accepted : (id : ℕ) → JudgedToEnd i id true
        → In id (accepted_at σ 𝓟 i) ⊎ (In id (entered_at σ 𝓟 i) ⊎ In id (dropped_at σ 𝓟 i))
    pub judged_rejected : (id : ℕ) → JudgedToEnd i id false → In id (rejected_at σ 𝓟 i)
    -- it is entered by an entry and dropped by a drop, and by no other call
    pub entered_asked : (id : ℕ) → In id (entered_at σ 𝓟 i) → Answered i (enter id) done
    pub asked_entered : (id : ℕ) → Answered i (enter id) done → In id (entered_at σ 𝓟 i)
    pub dropped_asked : (id : ℕ) → In id (dropped_at σ 𝓟 i) → Answered i (drop id) done
    pub asked_dropped : (id : ℕ) → Answered i (drop id) done → In id (dropped_at σ 𝓟 i)
    pub dropped_not_entered : (id : ℕ) → In id (dropped_at σ 𝓟 i) → In id (entered_at σ 𝓟 i) → ⊥
    -- while it is accepted it can be entered, and can be dropped. "Entering a return that has no accepted verdict, or closing while one
    -- waits for entry, is refused 11"
    pub can_enter : (id : ℕ) → In id (accepted_at σ 𝓟 i) → refusal_at i (enter id) ≡ 0
    pub can_drop : (id : ℕ) → In id (accepted_at σ 𝓟 i) → refusal_at i (drop id) ≡ 0
    pub cannot_enter : (id : ℕ) → (In id (accepted_at σ 𝓟 i) → ⊥) → refusal_at i (enter id) ≡ 11
    pub cannot_close : (id : ℕ) → In id (accepted_at σ 𝓟 i) → (room : ℕ) → refusal_at i (close room) ≡ 11

  -- "Unequal challenges no longer count as a verdict": server i refuses each round one on the id, wherever it stands in its list; a
  -- return under the id waits for round one, or it was dropped
  pub record NoVerdict (id i : ℕ) : Type 0 where
    pub refuses : (before after : List Call) (joined : List ℕ) (room : ℕ)
        → 𝓟.calls i ≡ before ++ (round_one id joined room ∷ after)
        → refusal_of σ (opened_at σ 𝓟 i) (run_ledger σ (opened_at σ 𝓟 i) empty before) (round_one id joined room) ≡ 0 → ⊥
    pub waits : (p : Pending) → In p (waiting (ledger_at σ 𝓟 i).progress) → pending_id p ≡ id → p ≡ waits_one (note_in p)
    pub only_dropped : (k : Decided) → In k (ledger_at σ 𝓟 i).decided → k.note.id ≡ id → k.decision ≡ dropped

  abbrev pub AllClosed : Type 0
  AllClosed = (i : ℕ) → i < 𝓟.servers → (ledger_at σ 𝓟 i).progress ≡ is_closed
