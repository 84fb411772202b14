-- Calls and their answers in a list. What a ledger shows in the end it showed at the start, or a call had the answer that makes it so;
-- and what an answer makes so stays so, if no move undoes it. By induction on the list, for anything that is so of ledgers. Assumes nothing.
use mathlib.Core.Path.{◌≡◌, refl, sym, ap, ◌∙◌, subst}
use mathlib.Core.Logic.{inl, inr, ◌⊎◌, ⊎_elim}
use mathlib.Core.Bool.{cond}
use mathlib.Core.List.{List, [], ◌∷◌, ◌++◌}
use Prim.Native.Nat.{ℕ}
use lib.Dec.{eqb}
use Rattle.algebra.specs.Lists.{All, all[], all∷}
use Rattle.rules.specs.Settings.{Setting}
use Rattle.rules.specs.Server.{Opened}
use Rattle.rules.specs.Ledger.{Call, Answer, Ledger, refusal_of, ledger_step, ledger_says, run_ledger}
use Rattle.rules.specs.Pools.{BytesIn, call_messages, AnsweredIn}
use Rattle.rules.proofs.Histories.Moves.{Moves, move}

module _ (σ : Setting) (o : Opened) where
  -- calls one after another
  pub run_append : (l : Ledger) (cs ds : List Call) → run_ledger σ o l (cs ++ ds) ≡ run_ledger σ o (run_ledger σ o l cs) ds
  unfolding run_ledger
  run_append l [] ds = refl
  run_append l (c ∷ cs) ds = run_append (ledger_step σ o l c (refusal_of σ o l c)) cs ds

  -- one call later
  later : {l : Ledger} {cs : List Call} {c : Call} {a : Answer} (b : Call)
      → AnsweredIn σ o (ledger_step σ o l b (refusal_of σ o l b)) cs c a → AnsweredIn σ o l (b ∷ cs) c a
  unfolding run_ledger
  later b q = record {
    before = b ∷ q.before;
    after = q.after;
    among = ap (λ (u : List Call). b ∷ u) q.among;
    answered = q.answered;
  }

  -- ---- what the ledger shows came by a call
  -- a call of the list, with an answer that makes it so
  pub record CameBy (Q : Call → Answer → Type 0) (l : Ledger) (cs : List Call) : Type 0 where
    pub call : Call
    pub answer : Answer
    pub is_in : AnsweredIn σ o l cs call answer
    pub makes_it : Q call answer

  -- P is so of the ledger, and Q of a call and its answer where they make it so
  module _ (P : Ledger → Type 0) (Q : Call → Answer → Type 0)
      (makes : (l l' : Ledger) (c : Call) (a : Answer) (h : List (List ℕ)) → Moves σ o l c a h l' → P l' → P l ⊎ Q c a) where
    pub came_by : (l : Ledger) (cs : List Call) → All BytesIn cs → P (run_ledger σ o l cs) → P l ⊎ CameBy Q l cs
    unfolding run_ledger
    came_by l [] all[] p = inl p
    came_by l (c ∷ cs) (all∷ b bs) p =
        ⊎_elim (λ old. ⊎_elim (λ q. inl q) (λ q. inr (first q)) (makes _ _ _ _ _ (move σ o l c b) old))
        (λ new. inr (record {
          call = new.call;
          answer = new.answer;
          is_in = later c new.is_in;
          makes_it = new.makes_it;
        }))
        (came_by (ledger_step σ o l c (refusal_of σ o l c)) cs bs p)
      where
        first : Q c (ledger_says σ o l c (refusal_of σ o l c)) → CameBy Q l (c ∷ cs)
        first q = record {
          call = c;
          answer = ledger_says σ o l c (refusal_of σ o l c);
          is_in = record { before = []; after = cs; among = refl; answered = refl };
          makes_it = q;
        }

  -- ---- what an answer makes so stays so
  module _ (R : Ledger → Type 0)
      (kept : (l l' : Ledger) (c : Call) (a : Answer) (h : List (List ℕ)) → Moves σ o l c a h l' → R l → R l') where
    stays_so : (l : Ledger) (cs : List Call) → All BytesIn cs → R l → R (run_ledger σ o l cs)
    unfolding run_ledger
    stays_so l [] all[] r = r
    stays_so l (c ∷ cs) (all∷ b bs) r = stays_so (ledger_step σ o l c (refusal_of σ o l c)) cs bs (kept _ _ _ _ _ (move σ o l c b) r)

    -- the calls behind one of a list
    behind : (c : Call) (after before : List Call) → All BytesIn (before ++ (c ∷ after)) → BytesIn c × All BytesIn after
    behind c after [] (all∷ b bs) = (b, bs)
    behind c after (k ∷ before) (all∷ b bs) = behind c after before bs

    pub made_so : (c : Call) (a : Answer) → ((l l' : Ledger) (h : List (List ℕ)) → Moves σ o l c a h l' → R l')
        → (l : Ledger) (cs : List Call) → All BytesIn cs → AnsweredIn σ o l cs c a → R (run_ledger σ o l cs)
    unfolding run_ledger
    made_so c a makes l cs bs q =
        let m : Ledger = run_ledger σ o l q.before in
        let both : BytesIn c × All BytesIn q.after = behind c q.after q.before (subst (All BytesIn) q.among bs) in
        let after : Ledger = ledger_step σ o m c (refusal_of σ o m c) in
        let is : run_ledger σ o l cs ≡ run_ledger σ o after q.after =
        ap (run_ledger σ o l) q.among ∙ run_append l q.before (c ∷ q.after) in
        let handed : List (List ℕ) = cond (eqb (refusal_of σ o m c) 0) (call_messages σ o c) [] in
        let moved : Moves σ o m c a handed after =
        subst (λ (x : Answer). Moves σ o m c x handed after) q.answered (move σ o m c both.0) in
        subst R (sym is) (stays_so after q.after both.1 (makes _ _ _ moved))
