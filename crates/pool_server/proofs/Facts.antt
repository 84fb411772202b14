-- Each C function's promise from that of the call that it hands everything to: what the call says of eight records it says of those
-- lent. The refusal, the table and what is left of buffers and numbers are one law each (Eight). Assumes nothing.
use mathlib.Core.Path.{◌≡◌, refl, sym, ap, ◌∙◌}
use mathlib.Core.Bool.{Bool, true, false, cond, ◌&&◌}
use mathlib.Core.List.{List, [], ◌∷◌}
use Prim.Native.Nat.{ℕ, zero, suc, ◌<◌}
use native.Mathlib.Omega.{arith}
use borrow.Author.Tests.{eqb-true, ne_eqb}
use mir.Val.{bool_byte}
use lib.Dec.{eqb, leb}
use lib.ListN.{length, replicate}
use Rattle.algebra.proofs.Members.{and_left, and_right}
use Rattle.words.specs.Bytes.{splice}
use Rattle.std.specs.Prelude.{None, Some, Result, Ok, Err, IfSome}
use Rattle.std.specs.Result.{result_ok}
use Rattle.records.specs.Outcome.{ok, refused}
use Rattle.records.specs.Refusals.{number_of, fault_of}
use Rattle.records.specs.Answers.{answered, only_if, if_done, length_of}
use Rattle.records.specs.declared.Refusal.{Refusal}
use Rattle.records.proofs.Answers.{writes}
use Rattle.records.proofs.Refusals.{number_nonzero}
use Rattle.slots.specs.declared.Slot.{Slot}
use Rattle.slots.specs.declared.Change.{Change}
use Rattle.slots.specs.Slots.{free_slot, eight_of, applied, cleared}
use Rattle.rules.specs.Settings.{document01}
use Rattle.rules.specs.Columns.{columns_of}
use Rattle.rules.specs.Server.{totals_length, share_refusal, one_refusal, two_refusal, enter_refusal, drop_refusal, close_refusal}
use Rattle.rules.specs.WaitingList.{run_size}
use Rattle.rules.specs.Table.{Lent, table_state, table_sound, table_fault, share_refused, share_table, share_bytes, one_refused, one_table, one_bytes}
use Rattle.rules.specs.Table.{two_refused, two_table, two_verdict, enter_refused, enter_table, drop_refused, drop_table}
use Rattle.rules.specs.Table.{close_refused, close_table, close_bytes, opened_in, open_room, open_length}
use Rattle.rules.proofs.Histories.Opening.{opening}
use Rattle.waiting.specs.Changes.{lent, unless_refused}
use Rattle.waiting.specs.Changes as sent
use Rattle.waiting.specs.declared.writing.Sent.{Sent}
use Rattle.opening.specs.Calls.{Opens}
use Rattle.closing.specs.Calls as closing
use Rattle.state.specs.Calls as state
use Rattle.state.specs.declared.State as told
use Rattle.rules.specs.State.{State, state_refusal, state_of}
use Rattle.shares.specs.Calls.{Shares}
use Rattle.round_one.specs.Calls.{RoundOne}
use Rattle.round_two.specs.Calls.{RoundTwo, change_of}
use Rattle.round_two.specs.declared.Decision.{Decision}
use Rattle.entering.specs.Calls as entering
use Rattle.pool_server.specs.Calls.{TakesShare, TakesOne, Decides, Enters, Drops, Closes, TellsState}
use Rattle.pool_server.specs.Calls as promise
use Rattle.pool_server.proofs.Eight.{unsound_refused, fault_same, left_same, answer_is, in_range, leaves}

-- ---- answers
-- a refused call changes no record
tie : {A : Type 0} (a : Result A Refusal) → (fault_of a ≡ 0 → ⊥) → result_ok a ≡ None
tie (Ok x) n = absurd (n refl)
tie (Err e) n = refl

decision_tie : (a : Result Decision Refusal) → (fault_of a ≡ 0 → ⊥) → change_of a ≡ None
decision_tie (Ok d) n = absurd (n refl)
decision_tie (Err e) n = refl

sent_tie : (a : Result Sent Refusal) → (fault_of a ≡ 0 → ⊥) → sent.change_of a ≡ None
sent_tie (Ok x) n = absurd (n refl)
sent_tie (Err e) n = refl

-- ---- a share
module _ (m : List ℕ) (r s : ℕ) (out : List ℕ) where
  share_refuses : (T : Lent) → table_sound document01 T ≡ false → share_refused document01 T m r s (length out) ≡ 11
  unfolding share_refused
  share_refuses = unsound_refused (λ T. share_refusal document01 (table_state document01 T) m r s (length out))

module _ (ys : List Slot) {t es m : List ℕ} {r s : ℕ} {out : List ℕ} (a : Result Sent Refusal) {es' out' : List ℕ}
    (h : Shares (lent t (eight_of ys) es) m r s out a es' out') where
  pub share_in_range : IfSome (sent.change_of a) (λ x. x.at < length ys)
  share_in_range =
      in_range (λ T. share_refused document01 T m r s (length out)) (share_refuses m r s out) t ys es
      (λ T. share_table document01 T m r s) (fault_of a) (sent.change_of a) (sent_tie a) t es' h.changes

  -- w' stands behind the pointer then
  pub shares : (w : ℕ) {ys' : List Slot} {w' : ℕ} → ys' ≡ applied ys (sent.change_of a) → w' ≡ if_done (fault_of a) 22 w
      → TakesShare (lent t ys es) m r s out w (fault_of a) (lent t ys' es') out' w'
  unfolding only_if
  shares w {ys'} {w'} e q =
      let fault : Lent → ℕ = λ T. share_refused document01 T m r s (length out) in
      let refuses = share_refuses m r s out in
      let new : Lent → Lent = λ T. share_table document01 T m r s in
      let same = answer_is fault refuses t ys es new (fault_of a) (sent.change_of a) (sent_tie a) t es' h.changes in (
        leaves fault refuses t ys es new (fault_of a) (sent.change_of a) (sent_tie a) t es' h.changes ys' e,
        record {
          answer_is = same;
          out_is = h.out_is ∙ left_same fault refuses t ys es (λ T. splice out 0 (share_bytes document01 T m r s)) out;
          written_is = rw same at q;
        },
      )

module _ (ys : List Slot) {t es m : List ℕ} {r s : ℕ} {out : List ℕ} (w : ℕ) {es' out' : List ℕ} where
  -- a share that is taken
  pub share_sent : (x : Sent) → Shares (lent t (eight_of ys) es) m r s out (Ok x) es' out' → (ys' : List Slot)
      → ys' ≡ applied ys (Some x.change) → TakesShare (lent t ys es) m r s out w 0 (lent t ys' es') out' x.written
  unfolding if_done
  share_sent x h ys' e = shares ys (Ok x) h w e h.written_is

  pub share_kept : (e : Refusal) → Shares (lent t (eight_of ys) es) m r s out (Err e) es' out'
      → TakesShare (lent t ys es) m r s out w (number_of e) (lent t ys es') out' w
  unfolding if_done
  share_kept e h = shares ys (Err e) h w refl (rw (ne_eqb (number_of e) 0 (number_nonzero e)))

-- ---- round one
module _ (id : ℕ) (joined out : List ℕ) where
  one_refuses : (T : Lent) → table_sound document01 T ≡ false → one_refused document01 T id joined (length out) ≡ 11
  unfolding one_refused
  one_refuses = unsound_refused (λ T. one_refusal document01 (table_state document01 T) id joined (length out))

module _ (ys : List Slot) {t es : List ℕ} {id : ℕ} {joined out : List ℕ} (a : Result Sent Refusal) {out' : List ℕ}
    (h : RoundOne (lent t (eight_of ys) es) id joined out a out') where
  pub one_in_range : IfSome (sent.change_of a) (λ x. x.at < length ys)
  one_in_range =
      in_range (λ T. one_refused document01 T id joined (length out)) (one_refuses id joined out) t ys es
      (λ T. one_table document01 T id joined) (fault_of a) (sent.change_of a) (sent_tie a) t es h.changes

  pub ones : (w : ℕ) {ys' : List Slot} {w' : ℕ} → ys' ≡ applied ys (sent.change_of a) → w' ≡ if_done (fault_of a) 14 w
      → TakesOne (lent t ys es) id joined out w (fault_of a) (lent t ys' es) out' w'
  unfolding only_if
  ones w {ys'} {w'} e q =
      let fault : Lent → ℕ = λ T. one_refused document01 T id joined (length out) in
      let refuses = one_refuses id joined out in
      let new : Lent → Lent = λ T. one_table document01 T id joined in
      let same = answer_is fault refuses t ys es new (fault_of a) (sent.change_of a) (sent_tie a) t es h.changes in (
        leaves fault refuses t ys es new (fault_of a) (sent.change_of a) (sent_tie a) t es h.changes ys' e,
        record {
          answer_is = same;
          out_is = h.out_is ∙ left_same fault refuses t ys es (λ T. splice out 0 (one_bytes document01 T id joined)) out;
          written_is = rw same at q;
        },
      )

module _ (ys : List Slot) {t es : List ℕ} {id : ℕ} {joined out : List ℕ} (w : ℕ) {out' : List ℕ} where
  -- round one that is taken
  pub one_sent : (x : Sent) → RoundOne (lent t (eight_of ys) es) id joined out (Ok x) out' → (ys' : List Slot)
      → ys' ≡ applied ys (Some x.change) → TakesOne (lent t ys es) id joined out w 0 (lent t ys' es) out' x.written
  unfolding if_done
  one_sent x h ys' e = ones ys (Ok x) h w e h.written_is

  pub one_kept : (e : Refusal) → RoundOne (lent t (eight_of ys) es) id joined out (Err e) out'
      → TakesOne (lent t ys es) id joined out w (number_of e) (lent t ys es) out' w
  unfolding if_done
  one_kept e h = ones ys (Err e) h w refl (rw (ne_eqb (number_of e) 0 (number_nonzero e)))

-- ---- round two
module _ (id : ℕ) (joined : List ℕ) where
  two_refuses : (T : Lent) → table_sound document01 T ≡ false → two_refused document01 T id joined ≡ 11
  unfolding two_refused
  two_refuses = unsound_refused (λ T. two_refusal document01 (table_state document01 T) id joined)

module _ (ys : List Slot) {t es : List ℕ} {id : ℕ} {joined : List ℕ} (a : Result Decision Refusal) {t' es' : List ℕ}
    (h : RoundTwo (lent t (eight_of ys) es) id joined a t' es') where
  pub two_in_range : IfSome (change_of a) (λ x. x.at < length ys)
  two_in_range =
      in_range (λ T. two_refused document01 T id joined) (two_refuses id joined) t ys es (λ T. two_table document01 T id joined)
      (fault_of a) (change_of a) (decision_tie a) t' es' h.changes

  -- v' stands behind the pointer then
  pub twos : (v : ℕ) {ys' : List Slot} {v' : ℕ} → ys' ≡ applied ys (change_of a)
      → v' ≡ if_done (fault_of a) (cond (two_verdict document01 (lent t ys es) joined) 1 0) v
      → Decides (lent t ys es) id joined v (fault_of a) (lent t' ys' es') v'
  twos v {ys'} {v'} e q =
      let fault : Lent → ℕ = λ T. two_refused document01 T id joined in
      let refuses = two_refuses id joined in
      let new : Lent → Lent = λ T. two_table document01 T id joined in
      let same = answer_is fault refuses t ys es new (fault_of a) (change_of a) (decision_tie a) t' es' h.changes in
      record {
        answer_is = same;
        table_is = leaves fault refuses t ys es new (fault_of a) (change_of a) (decision_tie a) t' es' h.changes ys' e;
        accepted_is = rw same at q;
      }

byte_is : (b : Bool) → bool_byte b ≡ cond b 1 0
byte_is true = refl
byte_is false = refl

module _ (ys : List Slot) {t es : List ℕ} {id : ℕ} {joined : List ℕ} (v : ℕ) {t' es' : List ℕ} where
  -- a decision d, which the verdict follows
  pub decided : (d : Decision) → RoundTwo (lent t (eight_of ys) es) id joined (Ok d) t' es' → (ys' : List Slot)
      → ys' ≡ applied ys (Some d.change) → Decides (lent t ys es) id joined v 0 (lent t' ys' es') (bool_byte d.accepted)
  unfolding if_done two_verdict
  decided d h ys' e = twos ys (Ok d) h v e (byte_is d.accepted ∙ rw h.accepted_is)

  pub undecided : (e : Refusal) → RoundTwo (lent t (eight_of ys) es) id joined (Err e) t' es'
      → Decides (lent t ys es) id joined v (number_of e) (lent t' ys es') v
  unfolding if_done
  undecided e h = twos ys (Err e) h v refl (rw (ne_eqb (number_of e) 0 (number_nonzero e)))

-- ---- an entry and a drop
enter_refuses : (id : ℕ) (T : Lent) → table_sound document01 T ≡ false → enter_refused document01 T id ≡ 11
unfolding enter_refused
enter_refuses id = unsound_refused (λ T. enter_refusal (table_state document01 T) id)

module _ (id : ℕ) (ys : List Slot) {t es : List ℕ} (a : Result Change Refusal) {t' es' : List ℕ}
    (h : entering.Enters (lent t (eight_of ys) es) id a t' es') where
  pub enter_in_range : IfSome (result_ok a) (λ x. x.at < length ys)
  enter_in_range =
      in_range (λ T. enter_refused document01 T id) (enter_refuses id) t ys es (λ T. enter_table document01 T id)
      (fault_of a) (result_ok a) (tie a) t' es' h

  pub enters : {ys' : List Slot} {n : ℕ} → ys' ≡ applied ys (result_ok a) → n ≡ fault_of a
      → Enters (lent t ys es) id n (lent t' ys' es')
  enters {ys'} {n} e q =
      let fault : Lent → ℕ = λ T. enter_refused document01 T id in
      let new : Lent → Lent = λ T. enter_table document01 T id in
      record {
        answer_is = q ∙ answer_is fault (enter_refuses id) t ys es new (fault_of a) (result_ok a) (tie a) t' es' h;
        table_is = leaves fault (enter_refuses id) t ys es new (fault_of a) (result_ok a) (tie a) t' es' h ys' e;
      }

drop_refuses : (id : ℕ) (T : Lent) → table_sound document01 T ≡ false → drop_refused document01 T id ≡ 11
unfolding drop_refused
drop_refuses id = unsound_refused (λ T. drop_refusal (table_state document01 T) id)

module _ (id : ℕ) (ys : List Slot) {t es : List ℕ} (a : Result Change Refusal) {t' es' : List ℕ}
    (h : closing.Drops (lent t (eight_of ys) es) id a t' es') where
  pub drop_in_range : IfSome (result_ok a) (λ x. x.at < length ys)
  drop_in_range =
      in_range (λ T. drop_refused document01 T id) (drop_refuses id) t ys es (λ T. drop_table document01 T id)
      (fault_of a) (result_ok a) (tie a) t' es' h

  pub drops : {ys' : List Slot} {n : ℕ} → ys' ≡ applied ys (result_ok a) → n ≡ fault_of a
      → Drops (lent t ys es) id n (lent t' ys' es')
  drops {ys'} {n} e q =
      let fault : Lent → ℕ = λ T. drop_refused document01 T id in
      let new : Lent → Lent = λ T. drop_table document01 T id in
      record {
        answer_is = q ∙ answer_is fault (drop_refuses id) t ys es new (fault_of a) (result_ok a) (tie a) t' es' h;
        table_is = leaves fault (drop_refuses id) t ys es new (fault_of a) (result_ok a) (tie a) t' es' h ys' e;
      }

-- ---- a close: the records stay, eight or not
close_refuses : (room : ℕ) (T : Lent) → table_sound document01 T ≡ false → close_refused document01 T room ≡ 11
unfolding close_refused
close_refuses room = unsound_refused (λ T. close_refusal document01 (table_state document01 T) room)

pub closes : (ys : List Slot) {t es out : List ℕ} (w : ℕ) (a : Result ℕ Refusal) {t' out' : List ℕ} {n w' : ℕ}
    → closing.Closes (lent t (eight_of ys) es) out a t' out' → n ≡ fault_of a → w' ≡ length_of a w
    → Closes (lent t ys es) out w n (lent t' ys es) out' w'
unfolding only_if unless_refused close_table
closes ys {t} {es} {out} w a {t'} {out'} {n} {w'} h q l =
    let fault : Lent → ℕ = λ T. close_refused document01 T (length out) in
    let refuses = close_refuses (length out) in
    let size : Lent → ℕ = λ T. totals_length document01 (opened_in document01 T.bytes) in
    let bytes : t' ≡ cond (eqb (fault (lent t ys es)) 0) (splice t 1 (1 ∷ [])) t =
    ap (λ (T : Lent). T.bytes) h.table_is
    ∙ part (eqb (fault (lent t (eight_of ys) es)) 0) (eight_of ys)
    ∙ left_same fault refuses t ys es (λ T. splice t 1 (1 ∷ [])) t in (
      ap (λ (u : List ℕ). lent u ys es) bytes ∙ whole (eqb (fault (lent t ys es)) 0),
      writes (fault (lent t ys es)) (close_bytes document01 (lent t ys es)) (size (lent t ys es)) out w a n out' w'
          (h.answer_is ∙ ap (λ (f : ℕ). answered f (size (lent t ys es))) (fault_same fault refuses t ys es))
          (h.out_is ∙ left_same fault refuses t ys es (λ T. splice out 0 (close_bytes document01 T)) out) q l,
    )
  where
    part : (b : Bool) (xs : List Slot) → (cond b (lent (splice t 1 (1 ∷ [])) xs es) (lent t xs es)).bytes ≡ cond b (splice t 1 (1 ∷ [])) t
    part true xs = refl
    part false xs = refl

    whole : (b : Bool) → lent (cond b (splice t 1 (1 ∷ [])) t) ys es ≡ cond b (lent (splice t 1 (1 ∷ [])) ys es) (lent t ys es)
    whole true = refl
    whole false = refl

-- ---- the state: nothing changes but the numbers behind the pointers
state_refuses : (T : Lent) → table_sound document01 T ≡ false → state_refusal document01 T ≡ 11
unfolding state_refusal table_fault
state_refuses T e = rw e refl

module _ (ys : List Slot) {t es : List ℕ} (before : State) where
  -- x is what is told
  pub tells : (x : told.State) → state.Tells (lent t (eight_of ys) es) (Ok x) → TellsState (lent t ys es) before 0 (state.eight_of x)
  tells x h =
      let fault : Lent → ℕ = state_refusal document01 in
      let numbers : state.eight_of x
      ≡ cond (eqb (fault (lent t (eight_of ys) es)) 0) (state_of document01 (lent t (eight_of ys) es)) before
      = rw (← h.answer_is) h.numbers_are in
      record {
        answer_is = h.answer_is ∙ fault_same fault state_refuses t ys es;
        numbers_are = numbers ∙ left_same fault state_refuses t ys es (state_of document01) before;
      }

  pub tells_none : (e : Refusal) → state.Tells (lent t (eight_of ys) es) (Err e) → TellsState (lent t ys es) before (number_of e) before
  tells_none e h =
      let same : number_of e ≡ state_refusal document01 (lent t ys es)
      = h.answer_is ∙ fault_same (state_refusal document01) state_refuses t ys es in
      record { answer_is = same; numbers_are = rw (← same, ne_eqb (number_of e) 0 (number_nonzero e)) }

-- ---- opening: the call clears bytes and numbers, and the records are cleared where it is not refused
opened_ok : (length f n : ℕ) → ok length ≡ answered f n → (f ≡ 0) × (length ≡ n)
unfolding answered
opened_ok length zero n e = (refl, cc)
opened_ok length (suc f) n e = let q = rw (ne_eqb (suc f) 0 (λ z. omega arith)) at e in cc

opened_err : (m f n : ℕ) → refused m ≡ answered f n → f ≡ m
unfolding answered
opened_err m zero n e = cc
opened_err m (suc f) n e = let q = rw (ne_eqb (suc f) 0 (λ z. omega arith)) at e in cc

module _ {servers own : ℕ} {sheet : List ℕ} {returns least : ℕ} {t : List ℕ} {es : List ℕ} {t' es' : List ℕ} (ys : List Slot) where
  some_eight : (n : ℕ) → Opens servers own sheet returns least t (length ys) es (Ok n) t' es' → length ys ≡ 8
  unfolding open_room
  some_eight n h =
      let z = (opened_ok n _ _ h.answer_is).0 in
      let known = opening document01 servers own sheet returns least (length t) (length ys) (length es) z in
      let long : Bool = leb (open_length document01 sheet returns) (length t) in
      let eight : Bool = eqb (length ys) 8 in
      let run : Bool = leb (run_size (columns_of sheet)) (length es) in
      eqb-true (length ys) 8 (and_left eight run (and_right long (eight && run) known.enough))

  pub opens_eight : (a : Result ℕ Refusal) → Opens servers own sheet returns least t (length ys) es a t' es' → fault_of a ≡ 0 → length ys ≡ 8
  opens_eight (Ok n) h z = some_eight n h
  opens_eight (Err r) h z = absurd (number_nonzero r z)

  opens_some : (w n : ℕ) {ys' : List Slot} → Opens servers own sheet returns least t (length ys) es (Ok n) t' es'
      → ys' ≡ replicate 8 free_slot
      → promise.Opens servers own sheet returns least (lent t ys es) w 0 (lent t' ys' es') n
  unfolding only_if if_done unless_refused
  opens_some w n h e =
      let z = opened_ok n _ _ h.answer_is in
      record {
        answer_is = sym z.0;
        table_is = rw (h.table_is, h.numbers_are, e, z.0) refl;
        written_is = rw (z.0, z.1);
      }

  opens_none : (w : ℕ) (r : Refusal) → Opens servers own sheet returns least t (length ys) es (Err r) t' es'
      → promise.Opens servers own sheet returns least (lent t ys es) w (number_of r) (lent t' ys es') w
  unfolding only_if if_done unless_refused
  opens_none w r h =
      let z = opened_err (number_of r) _ _ h.answer_is in
      let f = ne_eqb (number_of r) 0 (number_nonzero r) in
      record {
        answer_is = sym z;
        table_is = rw (h.table_is, h.numbers_are, z, f) refl;
        written_is = rw (z, f);
      }

  pub opens : (w : ℕ) (a : Result ℕ Refusal) {ys' : List Slot} → Opens servers own sheet returns least t (length ys) es a t' es'
      → ys' ≡ cleared ys (fault_of a)
      → promise.Opens servers own sheet returns least (lent t ys es) w (fault_of a) (lent t' ys' es') (length_of a w)
  unfolding cleared
  opens w (Ok n) h e = opens_some w n h e
  opens w (Err r) h e =
      let kept = e ∙ ap (λ (b : Bool). cond b (replicate 8 free_slot) ys) (ne_eqb (number_of r) 0 (number_nonzero r)) in
      rw kept (opens_none w r h)
