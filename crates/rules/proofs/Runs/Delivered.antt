-- A return whose messages bring the shares of making, each taken at its server, is delivered whole: a share that is taken
-- stays noted to the end, ids in a ledger differ, and each message is read back as the share. Servers with
-- room take such messages and accept: the shares are sound, and every allowed pair lets them in. Assumes nothing.
use mathlib.Core.Path.{◌≡◌, refl, sym, ap, ◌∙◌, subst}
use mathlib.Core.Logic.{inl, inr}
use mathlib.Core.Bool.{true}
use mathlib.Core.List.{List, ◌∷◌, map}
use Prim.Native.Nat.{ℕ, ◌<◌}
use lib.ListN.{get_or}
use Rattle.algebra.specs.Lists.{All, all∷, In}
use Rattle.algebra.proofs.Members.{all_right, append_in}
use Rattle.words.proofs.Below.{all_of_below}
use Rattle.rules.specs.Settings.{Setting, Facts}
use Rattle.rules.specs.Judging.{lets_in}
use Rattle.rules.specs.Server.{Opened}
use Rattle.rules.specs.Ledger.{Call, share, Note, waits_one, note_in, is_open, waiting, Ledger}
use Rattle.rules.specs.Ledger.{empty, notes_of}
use Rattle.rules.specs.Ledger.{note_of, refusal_of, ledger_after, ledger_step, run_ledger}
use Rattle.rules.specs.Pools.{BytesIn, Pool, columns, opened_at, notes_in, notes_at}
use Rattle.rules.specs.WholeRun.{Ready}
use Rattle.rules.specs.Made.{share_made, MadeReturn, ReadBack, NotedFrom, Took, MadeOf, CanTake, MadeAccepted}
use Rattle.rules.proofs.Returns.OnSheets.{sheet_honest_let_in}
use Rattle.rules.proofs.Returns.MadeMessages.{read_back}
use Rattle.rules.proofs.Histories.Moves.{history, at}
use Rattle.rules.proofs.Histories.Answers.{run_append}
use Rattle.rules.proofs.Histories.NotesGrow.{keeps_notes}
use Rattle.rules.proofs.Histories.PoolOpened.{is_read}
use Rattle.rules.proofs.Runs.Agreement.{found}
use Rattle.rules.proofs.Runs.Handled.{entered_alone}

-- ---- a share that is taken is noted
module _ (σ : Setting) (o : Opened) where
  -- a ledger where a share waits that was taken last
  abbrev noting : Ledger → Note → Ledger
  noting l n = at (is_open (waits_one n ∷ waiting l.progress)) l.decided

  -- the ledger after a share that is not refused, and the calls behind it
  run_share : (l : Ledger) (m : List ℕ) (r s room : ℕ) (after : List Call) → refusal_of σ o l (share m r s room) ≡ 0
      → run_ledger σ o l (share m r s room ∷ after) ≡ run_ledger σ o (noting l (note_of σ o m r s)) after
  unfolding run_ledger ledger_after
  run_share l m r s room after e =
      ap (λ (f : ℕ). run_ledger σ o (ledger_step σ o l (share m r s room) f) after) e

module _ (σ : Setting) (𝓟 : Pool σ) where
  pub took_noted : (i : ℕ) → i < 𝓟.servers → (m : List ℕ) (t : Took σ 𝓟 i m)
      → In (note_of σ (opened_at σ 𝓟 i) m t.r t.s) (notes_at σ 𝓟 i)
  unfolding notes_in
  took_noted i l m t =
      let o = opened_at σ 𝓟 i in
      let before : Ledger = run_ledger σ o empty t.before in
      let n : Note = note_of σ o m t.r t.s in
      let now : Ledger = noting σ o before n in
      let c : Call = share m t.r t.s t.room in
      let ends : run_ledger σ o empty (𝓟.calls i) ≡ run_ledger σ o now t.after =
      ap (run_ledger σ o empty) t.among
      ∙ run_append σ o empty t.before (c ∷ t.after)
      ∙ run_share σ o before m t.r t.s t.room t.after t.not_refused in
      let bytes : All BytesIn (c ∷ t.after) =
      all_right t.before (c ∷ t.after) (subst (All BytesIn) t.among (𝓟.call_bytes i l)) in
      let here : In n (notes_in now) =
      append_in n (notes_of before.decided) (n ∷ map note_in (waiting before.progress)) (inr (inl refl)) in
      subst (λ (v : Ledger). In n (notes_in v)) (sym ends)
      (keeps_notes σ o (history σ o now t.after (behind bytes)) n here)
    where
      behind : {c : Call} {cs : List Call} → All BytesIn (c ∷ cs) → All BytesIn cs
      behind (all∷ b bs) = bs

-- ---- a return that making wrote
module _ (σ : Setting) (facts : Facts σ) (𝓟 : Pool σ) (id : ℕ) (vs zs : List ℕ) (messages : ℕ → List ℕ)
    (m : MadeReturn σ 𝓟.sheet 𝓟.servers id vs zs messages) where
  sound : ReadBack σ 𝓟.sheet 𝓟.servers id vs zs messages
  sound = read_back σ facts 𝓟.sheet 𝓟.servers id vs zs messages m

  -- where each server's ledger has noted what its message says
  pub noted_whole : id < 4294967296 → ((i : ℕ) → i < 𝓟.servers → NotedFrom σ 𝓟 i (messages i)) → MadeOf σ 𝓟 id vs
  noted_whole fits noted = (
    record {
      values = vs;
      random = zs;
      legal = m.legal;
      enough = m.enough;
      below = m.below;
      noted = λ i l.
          ap (λ (n : Note). n.elements) (found σ 𝓟 id i l _ (noted i l).2 ((sound.brings i l).named fits))
          ∙ (sound.brings i l).says;
    },
    refl,
  )

  -- where each server took its message
  pub taken_whole : id < 4294967296 → ((i : ℕ) → i < 𝓟.servers → Took σ 𝓟 i (messages i)) → MadeOf σ 𝓟 id vs
  taken_whole fits took =
      noted_whole fits (λ i l. ((took i l).r, (took i l).s, took_noted σ 𝓟 i l (messages i) (took i l)))

  -- where the servers can take it
  module _ (r s lent roundLent : ℕ) (free : CanTake σ 𝓟 id r s lent roundLent) where
    abbrev shares : ℕ → List ℕ
    shares = share_made σ 𝓟.sheet 𝓟.servers id vs zs

    made_ready : Ready σ 𝓟 id shares r s messages lent roundLent
    made_ready = record {
      waits = free.waits;
      open_all = free.open_all;
      below_eight = free.below_eight;
      fewer = free.fewer;
      unused = free.unused;
      id_fits = free.id_fits;
      sound = sound.brings;
      pair = free.pair;
      enough = free.enough;
      enough_one = free.enough_one;
    }

    let_in : lets_in σ (columns σ 𝓟) 𝓟.servers (λ j e. get_or (shares j) e 0) r s ≡ true
    let_in =
        sheet_honest_let_in σ facts 𝓟.sheet (columns σ 𝓟) (is_read σ 𝓟) 𝓟.servers 𝓟.some_server vs zs m.legal
        (all_of_below σ.modulus zs m.below) r s free.pair

    pub made_accepted : MadeAccepted σ 𝓟 id vs zs messages r s lent roundLent
    made_accepted i l ones twos p q = entered_alone σ facts 𝓟 id messages shares r s lent roundLent made_ready ones twos p q i l let_in
