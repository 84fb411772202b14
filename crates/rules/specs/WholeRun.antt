-- Document 01, "Whole runs": what demand 3 claims of S servers, each with its own list of calls (Pools).
-- Assumes nothing.
use Rattle.std.specs.Prelude.{◌≡◌, Bool, true, ℕ, suc, ◌+◌, ◌-◌, ◌*◌, ◌%◌, ◌≤◌, ◌<◌, max, leb, length, get_or, replicate}
use mathlib.Core.List.{List, [], ◌∷◌, ◌++◌, map, flatten}
use Rattle.algebra.specs.Lists.{All, In, Distinct, Rearranged, sum_over, count_from}
use Rattle.algebra.specs.Modulo.{modulo}
use Rattle.algebra.specs.Count.{count_pairs}
use Rattle.rules.specs.Settings.{Setting}
use Rattle.rules.specs.Columns.{Column, check, published_in, published_from}
use Rattle.rules.specs.Circuit.{gates_in, tests_in}
use Rattle.rules.specs.Run.{Valid}
use Rattle.rules.specs.Judging.{share_size, added_up, lets_in, allowed_pair}
use Rattle.rules.specs.Making.{share_message}
use Rattle.rules.specs.Seeds.{seed_size, seed_message, seed_elements}
use Rattle.rules.specs.Messages.{kind_in, id_in, share_in, header_fault, elements_fault, round_length, one_by_one}
use Rattle.rules.specs.Server.{Waiting, Wait, most_waiting, waiting_of, message_one, message_two, summed, totals_length}
use Rattle.slots.specs.Slots.{free_slot}
use Rattle.rules.specs.WaitingList.{is_free, place_size, numbers_at, waits_in}
use Rattle.rules.specs.Table.{Lent, decided_in, entered_in, totals_in, unused_in}
use Rattle.rules.specs.Joining.{accepted_count, join_refusal, join_count, join_totals}
use Rattle.rules.specs.Ledger.{Call, share, round_one, round_two, enter, close, refused, wrote, judged, done}
use Rattle.rules.specs.Ledger.{Note, Pending, is_open, is_closed, waiting}
use Rattle.rules.specs.Ledger.{empty, is_entered, notes_with, ids_of, ledger_totals, ledger_wait, closing_message, run_ledger}
use Rattle.rules.specs.Ledger.{ledger_answers}
use Rattle.rules.specs.Runs.{run_table, table_answers}
use Rattle.rules.specs.Keyed.{those}
use Rattle.rules.specs.Mixing.{on, calls_on, answers_on, answers_to, Mixing}
use Rattle.rules.specs.Pools.{Pool, columns, opened_at, table_at, ledger_at, answers_at, entered_at, dropped_at, notes_at, added_entry}
use Rattle.rules.specs.Pools.{KeepsForm, Unaltered, Conditions, DeliveredWhole, JudgedToEnd, JudgedByPair, VerdictFirst}
use Rattle.rules.specs.Pools.{NoVerdict, AllClosed}

module _ (σ : Setting) (𝓟 : Pool σ) where
  -- the closing messages, one after another in server order
  abbrev pub closings : List ℕ
  closings = one_by_one (λ i. closing_message σ (opened_at σ 𝓟 i) (ledger_at σ 𝓟 i)) 𝓟.servers

  -- When all servers have closed
  pub record Closed : Type 0 where
    -- the entered ids are the same at each
    pub ids : List ℕ
    pub distinct : Distinct ids
    pub same_ids : (i : ℕ) → i < 𝓟.servers → Rearranged (entered_at σ 𝓟 i) ids
    -- each wrote the closing message that the ledger tells
    pub wrote_closing : (i : ℕ) → i < 𝓟.servers
        → In (wrote (closing_message σ (opened_at σ 𝓟 i) (ledger_at σ 𝓟 i))) (answers_at σ 𝓟 i)
    -- joining them is refused 14 at most, gives their number and the sums of the added-up published entries
    pub joins : (room : ℕ)
        → join_refusal σ 𝓟.servers 𝓟.sheet 𝓟.returns closings room
        ≡ check (leb (σ.width * published_in (columns σ 𝓟)) room) 14
    pub count : join_count closings ≡ length ids
    -- which is Q at least
    pub enough : 𝓟.least ≤ join_count closings
    pub totals : join_totals σ 𝓟.servers 𝓟.sheet closings
        ≡ map (λ e. sum_over (λ id. added_entry σ 𝓟 id e) ids % σ.modulus) (published_from 0 (columns σ 𝓟))
    -- "Honest returns that are entered are all in the totals, and a return accepted but dropped is in none": these ids are all that
    -- any server entered, and none that any server dropped (both by same-ids and the condition on drops)
    pub entered_in_lem : (i : ℕ) → i < 𝓟.servers → (id : ℕ) → In id (entered_at σ 𝓟 i) → In id ids
    pub dropped_out : (i : ℕ) → i < 𝓟.servers → (id : ℕ) → In id (dropped_at σ 𝓟 i) → In id ids → ⊥
    -- where every entered return keeps its form these are the sums themselves
    pub whole : ((id : ℕ) → In id ids → KeepsForm σ 𝓟 id)
        → join_totals σ 𝓟.servers 𝓟.sheet closings
        ≡ map (λ e. sum_over (λ id. added_entry σ 𝓟 id e) ids) (published_from 0 (columns σ 𝓟))

-- both rounds of a return, with the messages as they arrived
abbrev pub both_rounds : ℕ → List (List ℕ) → List (List ℕ) → ℕ → List Call
both_rounds id ones twos room = round_one id (flatten ones) room ∷ round_two id (flatten twos) ∷ []

-- a share message of either kind at server i, with the share that it brings: its header and its elements are sound
pub record Brings (σ : Setting) (cs : List Column) (id i : ℕ) (m xs : List ℕ) : Type 0 where
  pub named : id < 4294967296 → id_in m ≡ id
  pub header : header_fault σ cs i m ≡ 0
  pub elements : elements_fault σ cs m ≡ 0
  pub says : share_in σ cs m ≡ xs

-- A return of sound shares handed to servers that have room, and the messages of both rounds as they are written
module _ (σ : Setting) (𝓟 : Pool σ) (id : ℕ) (shares : ℕ → List ℕ) (r s : ℕ) where
  abbrev pub first_wait : ℕ → Waiting
  first_wait i = waiting_of σ (opened_at σ 𝓟 i) id (shares i) r s

  abbrev pub firsts : List (List ℕ)
  firsts = map (λ i. message_one σ (opened_at σ 𝓟 i) (first_wait i)) (count_from 0 𝓟.servers)

  abbrev pub second_wait : ℕ → Waiting
  second_wait i = summed σ (opened_at σ 𝓟 i) (first_wait i) (flatten firsts)

  abbrev pub seconds : List (List ℕ)
  seconds = map (λ i. message_two σ (opened_at σ 𝓟 i) (second_wait i)) (count_from 0 𝓟.servers)

  -- what has to be so for the return to be taken from the messages, by the room of the buffers for the share's message and for
  -- round one's
  pub record Ready (messages : ℕ → List ℕ) (room roundRoom : ℕ) : Type 0 where
    pub waits : ℕ → List Pending
    pub open_all : (i : ℕ) → i < 𝓟.servers → (ledger_at σ 𝓟 i).progress ≡ is_open (waits i)
    pub below_eight : (i : ℕ) → i < 𝓟.servers → length (waits i) < most_waiting
    pub fewer : (i : ℕ) → i < 𝓟.servers → length (ledger_at σ 𝓟 i).decided + length (waits i) < 𝓟.returns
    pub unused : (i : ℕ) → i < 𝓟.servers → In id (ids_of (notes_at σ 𝓟 i)) → ⊥
    pub id_fits : id < 4294967296
    pub sound : (i : ℕ) → i < 𝓟.servers → Brings σ (columns σ 𝓟) id i (messages i) (shares i)
    pub pair : allowed_pair σ (columns σ 𝓟) r s ≡ true
    pub enough : round_length σ 34 ≤ room
    pub enough_one : round_length σ 35 ≤ roundRoom

-- the returns that wait in server i's table after its calls
abbrev pub waits_after : (σ : Setting) (𝓟 : Pool σ) → ℕ → List Wait
waits_after σ 𝓟 i =
    let T = run_table σ (table_at σ 𝓟 i) (𝓟.calls i) in
    waits_in (columns σ 𝓟) T.slots T.elements

-- record j is free: then it is 0, and the numbers of its place are
abbrev pub Erased : List Column → Lent → ℕ → Type 0
Erased cs T j =
    is_free (get_or T.slots j free_slot) ≡ true
    → (get_or T.slots j free_slot ≡ free_slot) × (numbers_at cs T.elements j ≡ replicate (place_size cs) 0)

-- DEMAND 3: what every list of calls at S servers comes to
pub record WholeRun (σ : Setting) (𝓟 : Pool σ) : Type 0 where
  -- 1. Each table hands back what the ledger tells: refusals, messages and verdicts. No condition is needed
  pub tables : (i : ℕ) → i < 𝓟.servers → table_answers σ (table_at σ 𝓟 i) (𝓟.calls i) ≡ answers_at σ 𝓟 i
  -- 2, 3, 4. The entered ids are the same, joining gives their number and sums, in whole numbers where form is kept
  pub closed : Conditions σ 𝓟 → AllClosed σ 𝓟 → Closed σ 𝓟
  -- 5. A return judged to the end has one pair, and is accepted exactly when that pair lets it in. Unaltered messages are the only
  -- condition here and in part 6
  pub verdict : Unaltered σ 𝓟 → (i : ℕ) → i < 𝓟.servers → (id : ℕ) (accepted : Bool) → JudgedToEnd σ 𝓟 i id accepted
      → JudgedByPair σ 𝓟 id accepted
  -- 6. A return that is delivered whole is never rejected. "The old sentence that an honest return is never rejected then needs no
  -- premise about equal challenges"
  pub honest : Unaltered σ 𝓟 → (i : ℕ) → i < 𝓟.servers → (id : ℕ) (accepted : Bool) → JudgedToEnd σ 𝓟 i id accepted
      → DeliveredWhole σ 𝓟 id → accepted ≡ true
  -- 7. At most p × max(2M + 1, K - 1) pairs let shares in whose added-up entries are no valid list
  pub few : (x : ℕ → ℕ → ℕ) → ((i e : ℕ) → x i e < σ.modulus)
      → (Valid (modulo σ.modulus) σ (columns σ 𝓟) (added_up (modulo σ.modulus) σ (columns σ 𝓟) 𝓟.servers x) → ⊥)
      → count_pairs σ.modulus σ.modulus (lets_in σ (columns σ 𝓟) 𝓟.servers x)
      ≤ σ.modulus * max (suc (gates_in (columns σ 𝓟) + gates_in (columns σ 𝓟))) (tests_in (columns σ 𝓟) - 1)
  -- 8. A message with as many elements below p as a share has is sound, and so is one with a seed at any server but the first
  pub sound_elements : (id i : ℕ) (xs : List ℕ) → length xs ≡ share_size (columns σ 𝓟) → All (λ x. x < σ.modulus) xs
      → Brings σ (columns σ 𝓟) id i (share_message σ id i xs) xs
  pub sound_seed : (id i : ℕ) (seed : List ℕ) → length seed ≡ seed_size → 0 < i
      → Brings σ (columns σ 𝓟) id i (seed_message id i seed) (seed_elements σ seed id (share_size (columns σ 𝓟)))
  -- A return of sound shares is handled to its end, whichever messages brought them: nothing is refused, in whatever order the
  -- messages of a round arrived here, and the verdict is that of its pair
  pub handled : (id : ℕ) (messages shares : ℕ → List ℕ) (r s room roundRoom : ℕ)
      → Ready σ 𝓟 id shares r s messages room roundRoom
      → (i : ℕ) → i < 𝓟.servers → (ones twos : List (List ℕ))
      → Rearranged ones (firsts σ 𝓟 id shares r s) → Rearranged twos (seconds σ 𝓟 id shares r s)
      → ledger_answers σ (opened_at σ 𝓟 i) (ledger_at σ 𝓟 i)
      (share (messages i) r s room ∷ both_rounds id ones twos roundRoom)
      ≡ wrote (message_one σ (opened_at σ 𝓟 i) (first_wait σ 𝓟 id shares r s i))
      ∷ wrote (message_two σ (opened_at σ 𝓟 i) (second_wait σ 𝓟 id shares r s i))
      ∷ judged (lets_in σ (columns σ 𝓟) 𝓟.servers (λ j e. get_or (shares j) e 0) r s)
      ∷ []
  -- and however other calls are mixed in, once the share is taken
  pub handled_mixed : (id : ℕ) (messages shares : ℕ → List ℕ) (r s room roundRoom : ℕ)
      → Ready σ 𝓟 id shares r s messages room roundRoom
      → (i : ℕ) → i < 𝓟.servers → (ones twos : List (List ℕ))
      → Rearranged ones (firsts σ 𝓟 id shares r s) → Rearranged twos (seconds σ 𝓟 id shares r s)
      → (more : List Call) → those (on id) more ≡ both_rounds id ones twos roundRoom
      → answers_to σ (opened_at σ 𝓟 i) id (ledger_at σ 𝓟 i) (share (messages i) r s room ∷ more)
      ≡ wrote (message_one σ (opened_at σ 𝓟 i) (first_wait σ 𝓟 id shares r s i))
      ∷ wrote (message_two σ (opened_at σ 𝓟 i) (second_wait σ 𝓟 id shares r s i))
      ∷ judged (lets_in σ (columns σ 𝓟) 𝓟.servers (λ j e. get_or (shares j) e 0) r s)
      ∷ []
  -- and where the pair lets it in, it is entered when this is asked for
  pub handled_entered : (id : ℕ) (messages shares : ℕ → List ℕ) (r s room roundRoom : ℕ)
      → Ready σ 𝓟 id shares r s messages room roundRoom
      → lets_in σ (columns σ 𝓟) 𝓟.servers (λ j e. get_or (shares j) e 0) r s ≡ true
      → (i : ℕ) → i < 𝓟.servers → (ones twos : List (List ℕ))
      → Rearranged ones (firsts σ 𝓟 id shares r s) → Rearranged twos (seconds σ 𝓟 id shares r s)
      → (more : List Call) → those (on id) more ≡ both_rounds id ones twos roundRoom ++ (enter id ∷ [])
      → answers_to σ (opened_at σ 𝓟 i) id (ledger_at σ 𝓟 i) (share (messages i) r s room ∷ more)
      ≡ wrote (message_one σ (opened_at σ 𝓟 i) (first_wait σ 𝓟 id shares r s i))
      ∷ wrote (message_two σ (opened_at σ 𝓟 i) (second_wait σ 𝓟 id shares r s i))
      ∷ judged true
      ∷ done
      ∷ []
  -- 9. "However calls on different returns are mixed, a return that was taken gets the verdict that its unrefused calls alone,
  -- in their order on a table opened the same, would give": by the ledger, and on the table. No condition is needed
  pub mixing : (i : ℕ) → i < 𝓟.servers → (id : ℕ) → Mixing σ (opened_at σ 𝓟 i) id (𝓟.calls i)
  pub alone : (i : ℕ) → i < 𝓟.servers → (id : ℕ)
      → table_answers σ (table_at σ 𝓟 i) (calls_on σ (opened_at σ 𝓟 i) id empty (𝓟.calls i))
      ≡ answers_on σ (opened_at σ 𝓟 i) id empty (𝓟.calls i)
  -- 10. "Decided and waiting together never exceed N"; at most eight wait
  pub within_returns : (i : ℕ) → i < 𝓟.servers
      → length (ledger_at σ 𝓟 i).decided + length (waiting (ledger_at σ 𝓟 i).progress) ≤ 𝓟.returns
  pub at_most_eight : (i : ℕ) → i < 𝓟.servers → length (waiting (ledger_at σ 𝓟 i).progress) ≤ most_waiting
  -- "In the ledger, too, each id has its own stage": an id waits or is decided once
  pub once : (i : ℕ) → i < 𝓟.servers → Distinct (ids_of (notes_at σ 𝓟 i))
  -- 11. A decided return leaves its id and, where it is entered, what its share adds to the totals, and nothing else: the
  -- count and the totals are those of the entered returns, at each time (entering writes them, and no other call does); the records
  -- that are not free say the returns that wait in the ledger, and no others; the room for further ids is 0, and so are a record that
  -- is free and the numbers of its place. No condition is needed
  pub counted : (i : ℕ) → i < 𝓟.servers
      → entered_in σ (run_table σ (table_at σ 𝓟 i) (𝓟.calls i)).bytes ≡ length (entered_at σ 𝓟 i)
  pub summed_up_lem : (i : ℕ) → i < 𝓟.servers
      → totals_in σ (run_table σ (table_at σ 𝓟 i) (𝓟.calls i)).bytes
      ≡ ledger_totals σ (opened_at σ 𝓟 i) (notes_with is_entered (ledger_at σ 𝓟 i).decided)
  pub holds : (i : ℕ) → i < 𝓟.servers
      → Rearranged (waits_after σ 𝓟 i) (map (ledger_wait σ (opened_at σ 𝓟 i)) (waiting (ledger_at σ 𝓟 i).progress))
  pub unused : (i : ℕ) → i < 𝓟.servers
      → unused_in σ (run_table σ (table_at σ 𝓟 i) (𝓟.calls i)).bytes
      ≡ replicate (4 * (𝓟.returns - decided_in σ (run_table σ (table_at σ 𝓟 i) (𝓟.calls i)).bytes)) 0
  pub erased : (i : ℕ) → i < 𝓟.servers → (j : ℕ) → j < most_waiting → Erased (columns σ 𝓟) (run_table σ (table_at σ 𝓟 i) (𝓟.calls i)) j
  -- 12. "Closing with fewer than Q accepted gives no totals": a closed server has entered at least Q, and each totals message that a
  -- server writes has a count of at least Q. Where none waits and at least Q are entered, a close with room enough is done; with
  -- fewer it is refused 15, and nothing changes; with fewer and N decided no call changes anything any more. No condition is needed
  pub closed_enough : (i : ℕ) → i < 𝓟.servers → (ledger_at σ 𝓟 i).progress ≡ is_closed → 𝓟.least ≤ length (entered_at σ 𝓟 i)
  pub totals_enough : (i : ℕ) → i < 𝓟.servers → (m : List ℕ) → In (wrote m) (answers_at σ 𝓟 i) → kind_in m ≡ σ.totals_byte
      → 𝓟.least ≤ accepted_count m
  pub closes : (i : ℕ) → i < 𝓟.servers → (ledger_at σ 𝓟 i).progress ≡ is_open [] → 𝓟.least ≤ length (entered_at σ 𝓟 i)
      → (room : ℕ) → totals_length σ (opened_at σ 𝓟 i) ≤ room
      → ledger_answers σ (opened_at σ 𝓟 i) (ledger_at σ 𝓟 i) (close room ∷ [])
      ≡ wrote (closing_message σ (opened_at σ 𝓟 i) (ledger_at σ 𝓟 i)) ∷ []
  pub too_few : (i : ℕ) → i < 𝓟.servers → (ledger_at σ 𝓟 i).progress ≡ is_open [] → length (entered_at σ 𝓟 i) < 𝓟.least
      → (room : ℕ)
      → (ledger_answers σ (opened_at σ 𝓟 i) (ledger_at σ 𝓟 i) (close room ∷ []) ≡ refused 15 ∷ [])
      × (run_ledger σ (opened_at σ 𝓟 i) (ledger_at σ 𝓟 i) (close room ∷ []) ≡ ledger_at σ 𝓟 i)
  pub stays_shut : (i : ℕ) → i < 𝓟.servers → (ledger_at σ 𝓟 i).progress ≡ is_open [] → length (entered_at σ 𝓟 i) < 𝓟.least
      → length (ledger_at σ 𝓟 i).decided ≡ 𝓟.returns
      → (cs : List Call) → run_ledger σ (opened_at σ 𝓟 i) (ledger_at σ 𝓟 i) cs ≡ ledger_at σ 𝓟 i
  -- 13. "Unequal challenges no longer count as a verdict: with unaltered messages the return keeps waiting, and only dropping ends
  -- it": where two servers took an id with different pairs, no server takes round one on it, wherever such a call stands in its
  -- list. (That the return is not forgotten meanwhile is part 9.)
  pub unequal : Unaltered σ 𝓟 → (id i j : ℕ) → i < 𝓟.servers → j < 𝓟.servers → (m n : Note) → In m (notes_at σ 𝓟 i)
      → In n (notes_at σ 𝓟 j) → m.id ≡ id → n.id ≡ id → (m.r ≡ n.r → m.s ≡ n.s → ⊥) → (q : ℕ) → q < 𝓟.servers → NoVerdict σ 𝓟 id q
  -- 14. "Round two now only gives the verdict. An accepted return then waits until it is entered or dropped .. A rejected one is
  -- decided straight away": which verdict an id had, and where it stands after it. No condition is needed
  pub verdict_first_lem : (i : ℕ) → i < 𝓟.servers → VerdictFirst σ 𝓟 i
