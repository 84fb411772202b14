-- Document 02, eight returns waiting: "However calls on different returns are mixed, a return that was taken gets the verdict
-- that its unrefused calls alone, in their order on a table opened the same, would give." Assumes nothing.
use Rattle.std.specs.Prelude.{◌≡◌, Bool, false, cond, ◌&&◌, List, [], ◌∷◌, ℕ, eqb}
use Rattle.rules.specs.Settings.{Setting}
use Rattle.rules.specs.Messages.{id_in}
use Rattle.rules.specs.Server.{Opened}
use Rattle.rules.specs.Keyed.{find, those}
use Rattle.rules.specs.Ledger.{Call, share, round_one, round_two, enter, drop, close, Answer, Decided, Pending, pending_id}
use Rattle.rules.specs.Ledger.{is_open, waiting, Ledger, empty}
use Rattle.rules.specs.Ledger.{refusal_of, answer_of, ledger_step, ledger_says, run_ledger, ledger_answers}

-- a call on an id
abbrev pub on : ℕ → Call → Bool
on id (share m r s room) = eqb (id_in m) id
on id (round_one x joined room) = eqb x id
on id (round_two x joined) = eqb x id
on id (enter x) = eqb x id
on id (drop x) = eqb x id
on id (close room) = false

abbrev pub decided_id : Decided → ℕ
decided_id k = k.note.id

abbrev pub decided_on : ℕ → Decided → Bool
decided_on id k = eqb (decided_id k) id

abbrev pub pending_on : ℕ → Pending → Bool
pending_on id p = eqb (pending_id p) id

module _ (σ : Setting) (o : Opened) where
  -- a call on an id that is not refused
  abbrev pub taken_on : ℕ → Ledger → Call → Bool
  taken_on id l c = eqb (refusal_of σ o l c) 0 && on id c

  -- those of a list, in their order, and the answers that they got
  unfoldable pub calls_on : ℕ → Ledger → List Call → List Call
  calls_on id l [] = []
  calls_on id l (c ∷ cs) =
      let rest = calls_on id (ledger_step σ o l c (refusal_of σ o l c)) cs in
      cond (taken_on id l c) (c ∷ rest) rest

  unfoldable pub answers_on : ℕ → Ledger → List Call → List Answer
  answers_on id l [] = []
  answers_on id l (c ∷ cs) =
      let rest = answers_on id (ledger_step σ o l c (refusal_of σ o l c)) cs in
      cond (taken_on id l c) (answer_of σ o l c ∷ rest) rest

  -- the answers to all calls on an id, refusals too
  unfoldable pub answers_to : ℕ → Ledger → List Call → List Answer
  answers_to id l [] = []
  answers_to id l (c ∷ cs) =
      let rest = answers_to id (ledger_step σ o l c (refusal_of σ o l c)) cs in
      cond (on id c) (ledger_says σ o l c (refusal_of σ o l c) ∷ rest) rest

  pub record Mixing (id : ℕ) (cs : List Call) : Type 0 where
    -- alone none of them is refused, and each has the answer that it had: messages, and the verdict of round two
    pub answers : ledger_answers σ o empty (calls_on id empty cs) ≡ answers_on id empty cs
    -- alone they leave the return decided as it was, or waiting in the stage that it has
    pub verdict : find decided_id id (run_ledger σ o empty (calls_on id empty cs)).decided
        ≡ find decided_id id (run_ledger σ o empty cs).decided
    pub decided : (run_ledger σ o empty (calls_on id empty cs)).decided ≡ those (decided_on id) (run_ledger σ o empty cs).decided
    pub waits : (run_ledger σ o empty (calls_on id empty cs)).progress
        ≡ is_open (those (pending_on id) (waiting (run_ledger σ o empty cs).progress))
