-- Field 12 of demand 3: "Closing with fewer than Q accepted gives no totals." A ledger closes only where at least Q are entered and
-- takes nothing afterwards, so a closed one has as many; and it alone writes a totals message, with their number. Where none waits
-- the laws of `Refusing` say what a close comes to. Assumes nothing.
use mathlib.Core.Path.{◌≡◌, refl, sym, ap, ◌∙◌, subst}
use mathlib.Core.Logic.{⊎_elim, inl, inr}
use mathlib.Core.Bool.{true, false, false≢true}
use mathlib.Core.List.{List, [], ◌∷◌}
use Prim.Native.Nat.{ℕ, ◌≤◌, ◌<◌}
use native.Mathlib.Omega.{arith}
use lib.ListN.{length, length-map}
use Rattle.algebra.specs.Lists.{In}
use Rattle.rules.specs.Settings.{Setting, Facts}
use Rattle.rules.specs.Messages.{kind_in}
use Rattle.rules.specs.Server.{Opened, totals_length}
use Rattle.rules.specs.Joining.{accepted_count}
use Rattle.rules.specs.Ledger.{Call, close, Answer, refused, wrote, is_open, is_closed, Ledger, is_entered, notes_with}
use Rattle.rules.specs.Ledger.{noted, closing_message, ledger_totals}
use Rattle.rules.specs.Ledger.{second_answer, refusal_of, answer_of, ledger_says, ledger_answers, run_ledger}
use Rattle.rules.specs.Pools.{Pool, opened_at, ledger_at, answers_at, entered_at}
use Rattle.rules.proofs.Histories.ClosingBytes.{totals_count}
use Rattle.rules.proofs.Histories.PoolOpened.{returns_limits}
use Rattle.rules.proofs.Histories.Moves.{at, Moves, stays, notes, sums, accepts, decides, closes, History, over, next}
use Rattle.rules.proofs.Histories.Origins.{none_written, ended, Enough, stays_closed, closing_written}
use Rattle.rules.proofs.Histories.OwnMessages.{kind_one, kind_two}
use Rattle.rules.proofs.Runs.Agreement.{history_at}
use Rattle.rules.proofs.Histories.Decisions.{with_length}
use Rattle.rules.proofs.Runs.Refusing.{reached, too_few, few_kept, stays_shut}
use Rattle.rules.proofs.Runs.WithinLimits.{within_returns}

module _ (σ : Setting) (facts : Facts σ) (o : Opened) where
  -- a totals message that was written is that of the ledger in the end, in which at least Q are entered
  abbrev Closing : List ℕ → Ledger → Type 0
  Closing m l = (m ≡ closing_message σ o l) × Enough σ o l

  -- an answer that is a message is this message
  same_message : (x m : List ℕ) → wrote x ≡ wrote m → x ≡ m
  same_message x m e = cc

  first_written : {l l' : Ledger} {c : Call} {a : Answer} {h : List (List ℕ)} → Moves σ o l c a h l' → (m : List ℕ) → a ≡ wrote m
      → kind_in m ≡ σ.totals_byte → (ended σ o l'.progress ≡ true) × Closing m l'
  unfolding closing_message
  first_written (stays l n) m e k = absurd (let z : ◌≡◌ {A = ℕ} 0 1 = cc in omega arith)
  first_written (notes ws ds n t) m e k =
      let z : 34 ≡ kind_in m = sym (kind_one σ o (noted σ o n)) ∙ ap kind_in (same_message _ m e) in
      absurd (omega (arith, facts.apart))
  first_written (sums ws ds id n joined w s) m e k =
      let z : 35 ≡ kind_in m = sym (kind_two σ o _) ∙ ap kind_in (same_message (second_answer σ o n joined) m e) in
      absurd (omega (arith, facts.apart))
  first_written (accepts ws ds id n x y joined w s q) m e k = absurd (let z : ◌≡◌ {A = ℕ} 0 1 = cc in omega arith)
  first_written (decides ws ds id p d w s) m e k = absurd (none_written σ o s m e)
  first_written (closes ds q) m e k = (refl, (sym (same_message _ m e), q))

  written_closing : {l l' : Ledger} {xs : List Answer} {hs : List (List ℕ)} → History σ o l xs hs l' → (m : List ℕ)
      → In (wrote m) xs → kind_in m ≡ σ.totals_byte → Closing m l'
  written_closing (over l) m h k = absurd h
  written_closing (next mv r) m (inl e) k =
      let first = first_written mv m e k in
      subst (Closing m) (sym (stays_closed σ o r first.0)) first.1
  written_closing (next mv r) m (inr h) k = written_closing r m h k

module _ (σ : Setting) (𝓟 : Pool σ) (i : ℕ) (l : i < 𝓟.servers) where
  abbrev o : Opened
  o = opened_at σ 𝓟 i

  abbrev end : Ledger
  end = ledger_at σ 𝓟 i

  -- a server that is closed wrote its closing message, with at least Q entered
  pub closed_writes : end.progress ≡ is_closed → In (wrote (closing_message σ o end)) (answers_at σ 𝓟 i) × Enough σ o end
  closed_writes e =
      ⊎_elim (λ (f : false ≡ true). absurd (false≢true f)) (λ h. h)
      (closing_written σ o (history_at σ 𝓟 i l) (ap (ended σ o) e))

  entered_are : length (entered_at σ 𝓟 i) ≡ length (notes_with is_entered end.decided)
  entered_are = length-map (notes_with is_entered end.decided) (λ n. n.id)

  pub closed_enough : end.progress ≡ is_closed → 𝓟.least ≤ length (entered_at σ 𝓟 i)
  closed_enough e = rw entered_are (closed_writes e).1

  few : length (notes_with is_entered end.decided) < 4294967296
  few = omega (arith, with_length is_entered end.decided, within_returns σ 𝓟 i l, (returns_limits σ 𝓟).1)

  pub totals_enough : Facts σ → (m : List ℕ) → In (wrote m) (answers_at σ 𝓟 i) → kind_in m ≡ σ.totals_byte → 𝓟.least ≤ accepted_count m
  unfolding closing_message
  totals_enough facts m h k =
      let closing = written_closing σ facts o (history_at σ 𝓟 i l) m h k in
      let notes-in = notes_with is_entered end.decided in
      let count : accepted_count m ≡ length notes-in =
      ap accepted_count closing.0 ∙ totals_count σ o (length notes-in) (ledger_totals σ o notes-in) few in
      rw count closing.1

  -- ---- a close, and what comes after it, where none waits
  module _ (none : end.progress ≡ is_open []) where
    abbrev before : Ledger
    before = at (is_open []) end.decided

    same : before ≡ end
    same = λ t. record { progress = sym none t; decided = end.decided }

    pub close_done : 𝓟.least ≤ length (entered_at σ 𝓟 i) → (room : ℕ) → totals_length σ o ≤ room
        → ledger_answers σ o end (close room ∷ []) ≡ wrote (closing_message σ o end) ∷ []
    unfolding ledger_answers answer_of
    close_done h room r =
        let passes : refusal_of σ o before (close room) ≡ 0 = reached σ o end.decided (rw entered_are at h) room r in
        subst (λ (v : Ledger). ledger_answers σ o v (close room ∷ []) ≡ wrote (closing_message σ o v) ∷ []) same
        (ap (λ (f : ℕ). ledger_says σ o before (close room) f ∷ []) passes)

    module _ (few_entered : length (entered_at σ 𝓟 i) < 𝓟.least) where
      fewer : length (notes_with is_entered end.decided) < 𝓟.least
      fewer = rw entered_are at few_entered

      pub refused_15 : (room : ℕ) → (ledger_answers σ o end (close room ∷ []) ≡ refused 15 ∷ [])
          × (run_ledger σ o end (close room ∷ []) ≡ end)
      unfolding ledger_answers
      refused_15 room =
          subst (λ (v : Ledger). (ledger_answers σ o v (close room ∷ []) ≡ refused 15 ∷ []) × (run_ledger σ o v (close room ∷ []) ≡ v)) same (
            ap (λ (f : ℕ). ledger_says σ o before (close room) f ∷ []) (too_few σ o end.decided fewer room),
            few_kept σ o end.decided fewer room,
          )

      pub shut : length end.decided ≡ 𝓟.returns → (cs : List Call) → run_ledger σ o end cs ≡ end
      shut all cs = subst (λ (v : Ledger). run_ledger σ o v cs ≡ v) same (stays_shut σ o end.decided fewer all cs)
