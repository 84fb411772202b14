-- What a list of C calls hands over: the messages of its rounds and its closing message are those that the ledger
-- tells. The number that a call returned is the ledger's refusal, by the answers; a closed ledger stays as it is.
-- Assumes that the answers are the ledger's.
use mathlib.Core.Path.{◌≡◌, refl, sym, ap, ap₂, ◌∙◌}
use mathlib.Core.Logic.{inl, inr}
use mathlib.Core.Bool.{Bool, true, false, cond, false≢true}
use mathlib.Core.List.{List, [], ◌∷◌, ◌++◌, map}
use mathlib.Core.Option.{Option, some, none}
use Prim.Native.Nat.{ℕ, zero, suc}
use native.Mathlib.Omega.{arith}
use borrow.Author.Tests.{ne_eqb, eqb-true}
use lib.Dec.{eqb}
use lib.ListN.{length, take}
use Rattle.algebra.specs.Lists.{In}
use Rattle.rules.specs.Settings.{document01}
use Rattle.rules.specs.Server.{Opened, while_open}
use Rattle.rules.specs.Messages.{both_zero}
use Rattle.rules.specs.Server.{share_refusal, one_refusal, two_refusal, enter_refusal, drop_refusal, close_refusal}
use Rattle.rules.specs.Ledger.{Call, share, round_one, round_two, enter, drop, close, Answer, refused, wrote, judged, done, Ledger}
use Rattle.rules.specs.Ledger.{Progress, is_open, is_closed, Pending, Decided, Decision, decide_as}
use Rattle.rules.specs.Ledger as ledger
use Rattle.rules.specs.Ledger.{ledger_stage, ledger_state, refusal_of, ledger_after, ledger_step, ledger_says, closing_message}
use Rattle.rules.specs.Ledger.{run_ledger, ledger_answers}
use Rattle.rules.specs.Table.{Lent}
use Rattle.rules.specs.Pools.{messages_in, call_messages, handed_in}
use Rattle.calls.specs.Calls.{CCall, pool_share, pool_round_one, pool_round_two, pool_enter, pool_drop, pool_close, call_of}
use Rattle.calls.specs.Calls.{answer_of}
use Rattle.calls.specs.Servers.{rounds_in, closings_in, over}

-- whether a ledger is closed
abbrev pub closed_in : Progress → Bool
closed_in (is_open ws) = false
closed_in is_closed = true

-- the number that an answer shows
abbrev refusal_in : Answer → ℕ
refusal_in (refused n) = n
refusal_in (wrote m) = 0
refusal_in (judged b) = 0
refusal_in done = 0

number_shown : (f : ℕ) (x : Answer) → refusal_in x ≡ 0 → refusal_in (cond (eqb f 0) x (refused f)) ≡ f
number_shown zero x e = e
number_shown (suc f) x e = rw (ne_eqb (suc f) 0 (λ z. omega arith)) refl

abbrev returned : CCall → ℕ
returned (pool_share T m r s out w a T' out' w') = a
returned (pool_round_one T id joined out w a T' out' w') = a
returned (pool_round_two T id joined v a T' v') = a
returned (pool_enter T id a T') = a
returned (pool_drop T id a T') = a
returned (pool_close T out w a T' out' w') = a

returned_shown : (c : CCall) → refusal_in (answer_of c) ≡ returned c
returned_shown (pool_share T m r s out w a T' out' w') = number_shown a _ refl
returned_shown (pool_round_one T id joined out w a T' out' w') = number_shown a _ refl
returned_shown (pool_round_two T id joined v a T' v') = number_shown a _ refl
returned_shown (pool_enter T id a T') = number_shown a done refl
returned_shown (pool_drop T id a T') = number_shown a done refl
returned_shown (pool_close T out w a T' out' w') = number_shown a _ refl

module _ (o : Opened) where
  not_refused : (l : Ledger) (c : Call) → refusal_in (ledger.answer_of document01 o l c) ≡ 0
  unfolding ledger.answer_of
  not_refused l (share m r s room) = refl
  not_refused l (round_one id joined room) = refl
  not_refused l (round_two id joined) = refl
  not_refused l (enter id) = refl
  not_refused l (drop id) = refl
  not_refused l (close room) = refl

  -- the first answer of a list, and the others
  abbrev next : Ledger → CCall → Ledger
  next l c = ledger_step document01 o l (call_of c) (refusal_of document01 o l (call_of c))

  abbrev pub Same : Ledger → List CCall → Type 0
  Same l cs = map answer_of cs ≡ ledger_answers document01 o l (map call_of cs)

  first_same : (l : Ledger) (c : CCall) (cs : List CCall) → Same l (c ∷ cs)
      → answer_of c ≡ ledger_says document01 o l (call_of c) (refusal_of document01 o l (call_of c))
  unfolding ledger_answers
  first_same l c cs e = cc

  others_same : (l : Ledger) (c : CCall) (cs : List CCall) → Same l (c ∷ cs) → Same (next l c) cs
  unfolding ledger_answers
  others_same l c cs e = cc

  number_same : (l : Ledger) (c : CCall) (cs : List CCall) → Same l (c ∷ cs) → returned c ≡ refusal_of document01 o l (call_of c)
  number_same l c cs e =
      sym (returned_shown c)
      ∙ ap refusal_in (first_same l c cs e)
      ∙ number_shown (refusal_of document01 o l (call_of c)) (ledger.answer_of document01 o l (call_of c)) (not_refused l (call_of c))

  -- the messages of a call
  nothing_else : (b : Bool) → ◌≡◌ {A = List (List ℕ)} [] (cond b [] [])
  nothing_else true = refl
  nothing_else false = refl

  rounds_by : (c : CCall) (f : ℕ) → returned c ≡ f → rounds_in o.servers c ≡ cond (eqb f 0) (call_messages document01 o (call_of c)) []
  unfolding call_messages
  rounds_by (pool_share T m r s out w a T' out' w') f e = nothing_else (eqb f 0)
  rounds_by (pool_round_one T id joined out w a T' out' w') f e =
      ap (λ (x : ℕ). cond (eqb x 0) (messages_in document01 o.servers 34 joined) []) e
  rounds_by (pool_round_two T id joined v a T' v') f e =
      ap (λ (x : ℕ). cond (eqb x 0) (messages_in document01 o.servers 35 joined) []) e
  rounds_by (pool_enter T id a T') f e = nothing_else (eqb f 0)
  rounds_by (pool_drop T id a T') f e = nothing_else (eqb f 0)
  rounds_by (pool_close T out w a T' out' w') f e = nothing_else (eqb f 0)

  pub rounds_same : (l : Ledger) (cs : List CCall) → Same l cs → over (rounds_in o.servers) cs ≡ handed_in document01 o l (map call_of cs)
  unfolding over handed_in
  rounds_same l [] e = refl
  rounds_same l (c ∷ cs) e =
      ap₂ (λ (a b : List (List ℕ)). a ++ b) (rounds_by c (refusal_of document01 o l (call_of c)) (number_same l c cs e))
      (rounds_same (next l c) cs (others_same l c cs e))

  -- a closed ledger refuses every call
  closed_refuses : (l : Ledger) (c : Call) → l.progress ≡ is_closed → refusal_of document01 o l c ≡ 11
  unfolding refusal_of share_refusal one_refusal two_refusal enter_refusal drop_refusal close_refusal ledger_state ledger_stage
      while_open
  closed_refuses l (share m r s room) e = rw e refl
  closed_refuses l (round_one id joined room) e = rw e refl
  closed_refuses l (round_two id joined) e = rw e refl
  closed_refuses l (enter id) e = rw e refl
  closed_refuses l (drop id) e = rw e refl
  closed_refuses l (close room) e = rw e refl

  stays_closed : (l : Ledger) (cs : List Call) → l.progress ≡ is_closed → run_ledger document01 o l cs ≡ l
  unfolding run_ledger
  stays_closed l [] e = refl
  stays_closed l (c ∷ cs) e =
      ap (λ (f : ℕ). run_ledger document01 o (ledger_step document01 o l c f) cs) (closed_refuses l c e) ∙ stays_closed l cs e

  -- a close that returned 0: its bytes are the closing message, and the ledger stays closed behind it
  closed_here : (l : Ledger) (T : Lent) (out : List ℕ) (w a : ℕ) (T' : Lent) (out' : List ℕ) (w' : ℕ) (cs : List CCall)
      → Same l (pool_close T out w a T' out' w' ∷ cs) → a ≡ 0
      → ((run_ledger document01 o l (map call_of (pool_close T out w a T' out' w' ∷ cs))).progress ≡ is_closed)
      × (take w' out' ≡ closing_message document01 o (run_ledger document01 o l (map call_of (pool_close T out w a T' out' w' ∷ cs))))
  unfolding run_ledger ledger_after ledger.answer_of closing_message
  closed_here l T out w a T' out' w' cs e z =
      let c = pool_close T out w a T' out' w' in
      let f : ℕ = refusal_of document01 o l (close (length out)) in
      let none : f ≡ 0 = sym (number_same l c cs e) ∙ z in
      let shut : Ledger = ledger_after document01 o l (close (length out)) in
      let after : run_ledger document01 o l (map call_of (c ∷ cs)) ≡ shut =
      ap (λ (k : ℕ). run_ledger document01 o (ledger_step document01 o l (close (length out)) k) (map call_of cs)) none
      ∙ stays_closed shut (map call_of cs) refl in
      let said : cond (eqb a 0) (wrote (take w' out')) (refused a) ≡ ledger_says document01 o l (close (length out)) f =
      first_same l c cs e in
      let same : wrote (take w' out') ≡ wrote (closing_message document01 o l) =
      ap (λ (k : ℕ). cond (eqb k 0) (wrote (take w' out')) (refused k)) (sym z)
      ∙ said
      ∙ ap (ledger_says document01 o l (close (length out))) none in
      let bytes : take w' out' ≡ closing_message document01 o l = cc in
      (ap (λ (k : Ledger). k.progress) after, bytes ∙ ap (closing_message document01 o) (sym after))

  pub closings_same : (l : Ledger) (cs : List CCall) → Same l cs → (m : List ℕ) → In m (over closings_in cs)
      → ((run_ledger document01 o l (map call_of cs)).progress ≡ is_closed)
      × (m ≡ closing_message document01 o (run_ledger document01 o l (map call_of cs)))
  unfolding over run_ledger
  closings_same l [] e m h = elim h [ ]
  closings_same l (pool_share T x r s out w a T' out' w' ∷ cs) e m h =
      let c = pool_share T x r s out w a T' out' w' in
      closings_same (next l c) cs (others_same l c cs e) m h
  closings_same l (pool_round_one T id joined out w a T' out' w' ∷ cs) e m h =
      let c = pool_round_one T id joined out w a T' out' w' in
      closings_same (next l c) cs (others_same l c cs e) m h
  closings_same l (pool_round_two T id joined v a T' v' ∷ cs) e m h =
      let c = pool_round_two T id joined v a T' v' in
      closings_same (next l c) cs (others_same l c cs e) m h
  closings_same l (pool_enter T id a T' ∷ cs) e m h =
      let c = pool_enter T id a T' in
      closings_same (next l c) cs (others_same l c cs e) m h
  closings_same l (pool_drop T id a T' ∷ cs) e m h =
      let c = pool_drop T id a T' in
      closings_same (next l c) cs (others_same l c cs e) m h
  closings_same l (pool_close T out w a T' out' w' ∷ cs) e m h =
      let c = pool_close T out w a T' out' w' in
      go (eqb a 0) refl h (closings_same (next l c) cs (others_same l c cs e) m)
    where
      Claim : Type 0
      Claim =
          ((run_ledger document01 o l (map call_of (pool_close T out w a T' out' w' ∷ cs))).progress ≡ is_closed)
          × (m ≡ closing_message document01 o (run_ledger document01 o l (map call_of (pool_close T out w a T' out' w' ∷ cs))))

      go : (b : Bool) → eqb a 0 ≡ b → In m (cond b (take w' out' ∷ []) [] ++ over closings_in cs) → (In m (over closings_in cs) → Claim)
          → Claim
      go true q (inl same) rest =
          let k = closed_here l T out w a T' out' w' cs e (eqb-true a 0 q) in
          (k.0, sym same ∙ k.1)
      go true q (inr k) rest = rest k
      go false q k rest = rest k

  -- only a close closes a ledger
  abbrev Open : Ledger → Type 0
  Open l = closed_in l.progress ≡ false

  either_open : (b : Bool) (x y : Ledger) → Open x → Open y → Open (cond b x y)
  either_open true x y h k = h
  either_open false x y h k = k

  decided_open : (id : ℕ) (w : Option Pending) (ws : List Pending) (ds : List Decided) (d : Decision)
      → Open (decide_as document01 o id w ws ds d)
  unfolding decide_as
  decided_open id none ws ds d = refl
  decided_open id (some w) ws ds d = refl

  pub closed_wrote : (l : Ledger) (cs : List CCall) → Same l cs → Open l
      → closed_in (run_ledger document01 o l (map call_of cs)).progress ≡ true
      → In (closing_message document01 o (run_ledger document01 o l (map call_of cs))) (over closings_in cs)
  unfolding over run_ledger ledger_after
  closed_wrote l [] e h k = absurd (false≢true (sym h ∙ k))
  closed_wrote l (pool_share T x r s out w a T' out' w' ∷ cs) e h k =
      let c = pool_share T x r s out w a T' out' w' in
      closed_wrote (next l c) cs (others_same l c cs e) (either_open (eqb (refusal_of document01 o l (call_of c)) 0) _ l refl h) k
  closed_wrote l (pool_round_one T id joined out w a T' out' w' ∷ cs) e h k =
      let c = pool_round_one T id joined out w a T' out' w' in
      closed_wrote (next l c) cs (others_same l c cs e)
      (either_open (eqb (refusal_of document01 o l (call_of c)) 0) _ l refl h) k
  closed_wrote l (pool_round_two T id joined v a T' v' ∷ cs) e h k =
      let c = pool_round_two T id joined v a T' v' in
      closed_wrote (next l c) cs (others_same l c cs e)
      (either_open (eqb (refusal_of document01 o l (call_of c)) 0) _ l
      (either_open (both_zero document01 o.servers joined) _ _ refl (decided_open id _ _ _ _)) h) k
  closed_wrote l (pool_enter T id a T' ∷ cs) e h k =
      let c = pool_enter T id a T' in
      closed_wrote (next l c) cs (others_same l c cs e)
      (either_open (eqb (refusal_of document01 o l (call_of c)) 0) _ l (decided_open id _ _ _ _) h) k
  closed_wrote l (pool_drop T id a T' ∷ cs) e h k =
      let c = pool_drop T id a T' in
      closed_wrote (next l c) cs (others_same l c cs e)
      (either_open (eqb (refusal_of document01 o l (call_of c)) 0) _ l (decided_open id _ _ _ _) h) k
  closed_wrote l (pool_close T out w a T' out' w' ∷ cs) e h k =
      let c = pool_close T out w a T' out' w' in
      go (eqb a 0) refl (λ z. closed_wrote (next l c) cs (others_same l c cs e) z k)
    where
      f : ℕ
      f = refusal_of document01 o l (close (length out))

      last : Ledger
      last = run_ledger document01 o l (map call_of (pool_close T out w a T' out' w' ∷ cs))

      go : (b : Bool) → eqb a 0 ≡ b
          → (Open (ledger_step document01 o l (close (length out)) f) → In (closing_message document01 o last) (over closings_in cs))
          → In (closing_message document01 o last) (cond b (take w' out' ∷ []) [] ++ over closings_in cs)
      go true q rest = inl (closed_here l T out w a T' out' w' cs e (eqb-true a 0 q)).1
      go false q rest =
          let kept : eqb f 0 ≡ false = ap (λ (n : ℕ). eqb n 0) (sym (number_same l (pool_close T out w a T' out' w') cs e)) ∙ q in
          rest (ap (λ (b : Bool). closed_in (cond b (ledger_after document01 o l (close (length out))) l).progress) kept ∙ h)
