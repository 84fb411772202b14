-- The refusals of a table beside a ledger are the ledger's. They ask for the number of returns that wait, for their ids and for
-- the return of one id; none of the three hangs on the order. Assumes nothing.
use mathlib.Core.Path.{◌≡◌, refl, sym, ap, ap₂, ◌∙◌}
use mathlib.Core.List.{List, ◌++◌, map}
use Prim.Native.Nat.{ℕ}
use lib.ListN.{length}
use Rattle.algebra.specs.Lists.{Rearranged}
use Rattle.algebra.proofs.Rearrangement.{rearranged_length}
use Rattle.records.specs.Outcome.{or_else}
use Rattle.records.proofs.Outcome.{or_none}
use Rattle.rules.specs.Settings.{Setting}
use Rattle.rules.specs.Messages.{id_in}
use Rattle.rules.specs.Server.{Opened, Wait, held_id, takes, ServerState, is_member, while_open}
use Rattle.rules.specs.Server.{share_refusal, one_refusal, two_refusal, enter_refusal, drop_refusal, close_refusal}
use Rattle.rules.specs.WaitingList.{waits_in}
use Rattle.rules.specs.Table.{Lent, table_state, table_fault, share_refused, one_refused, two_refused, enter_refused, drop_refused, close_refused}
use Rattle.rules.specs.Ledger.{Call, share, round_one, round_two, enter, drop, close, Progress, is_open, is_closed, waiting, Ledger}
use Rattle.rules.specs.Ledger.{ledger_wait, ledger_stage, ledger_state, refusal_of}
use Rattle.rules.specs.Runs.{table_refusal}
use Rattle.rules.proofs.Histories.Shuffled.{rearranged_map, rearranged_before}
use Rattle.rules.proofs.Waiting.Rearranged.{Apart, member_rearranged, find_rearranged}
use Rattle.rules.proofs.Tables.State.{stage_at}
use Rattle.rules.proofs.Tables.Listed.{waits_apart}
use Rattle.rules.proofs.Tables.Invariant.{Opens, stage_of, told_with, Beside, beside_known, beside_sound}

-- the refusal of a call by what a server knows
unfoldable state_refusal : Setting → ServerState → Call → ℕ
state_refusal σ k (share m r s room) = share_refusal σ k m r s room
state_refusal σ k (round_one id joined room) = one_refusal σ k id joined room
state_refusal σ k (round_two id joined) = two_refusal σ k id joined
state_refusal σ k (enter id) = enter_refusal k id
state_refusal σ k (drop id) = drop_refusal k id
state_refusal σ k (close room) = close_refusal σ k room

module _ (σ : Setting) where
  by_table : (T : Lent) (c : Call) → table_refusal σ T c ≡ or_else (table_fault σ T) (state_refusal σ (table_state σ T) c)
  unfolding table_refusal state_refusal share_refused one_refused two_refused enter_refused drop_refused close_refused
  by_table T (share m r s room) = refl
  by_table T (round_one id joined room) = refl
  by_table T (round_two id joined) = refl
  by_table T (enter id) = refl
  by_table T (drop id) = refl
  by_table T (close room) = refl

  by_ledger : (o : Opened) (l : Ledger) (c : Call) → refusal_of σ o l c ≡ state_refusal σ (ledger_state σ o l) c
  unfolding refusal_of state_refusal
  by_ledger o l (share m r s room) = refl
  by_ledger o l (round_one id joined room) = refl
  by_ledger o l (round_two id joined) = refl
  by_ledger o l (enter id) = refl
  by_ledger o l (drop id) = refl
  by_ledger o l (close room) = refl

  -- the returns that wait in another order
  module _ (o : Opened) (l : Ledger) (vs ws : List Wait) (p : Rearranged vs ws) (d : Apart held_id vs) where
    in_any_order : (c : Call) → state_refusal σ (told_with σ o l (takes vs)) c ≡ state_refusal σ (told_with σ o l (takes ws)) c
    unfolding state_refusal share_refusal one_refusal two_refusal enter_refusal drop_refusal close_refusal while_open
    in_any_order (share m r s room) =
        let used : List ℕ = (told_with σ o l (takes vs)).used in
        let many : length vs ≡ length ws = rearranged_length p in
        let ids : is_member (id_in m) (used ++ map held_id vs) ≡ is_member (id_in m) (used ++ map held_id ws) =
        member_rearranged (id_in m) (rearranged_before used (rearranged_map held_id p)) in
        rw (many, ids) refl
    in_any_order (round_one id joined room) = rw (find_rearranged held_id id p d) refl
    in_any_order (round_two id joined) = rw (find_rearranged held_id id p d) refl
    in_any_order (enter id) = rw (find_rearranged held_id id p d) refl
    in_any_order (drop id) = rw (find_rearranged held_id id p d) refl
    in_any_order (close room) = rw (rearranged_length p) refl

  module _ (o : Opened) (sheet : List ℕ) (open_facts : Opens σ o sheet) (T : Lent) (l : Ledger) (b : Beside σ o T l) where
    abbrev waits : List Wait
    waits = waits_in o.columns T.slots T.elements

    by_progress : (q : Progress) → Rearranged waits (map (ledger_wait σ o) (waiting q)) → Apart held_id waits → (c : Call)
        → state_refusal σ (told_with σ o l (stage_at (stage_of q) waits)) c ≡ state_refusal σ (told_with σ o l (ledger_stage σ o q)) c
    unfolding stage_at ledger_stage
    by_progress (is_open ws) p d c = in_any_order o l waits (map (ledger_wait σ o) ws) p d c
    by_progress is_closed p d c = refl

    pub refusal_same : (c : Call) → table_refusal σ T c ≡ refusal_of σ o l c
    unfolding ledger_state
    refusal_same c =
        by_table T c
        ∙ ap₂ or_else (beside_sound σ o T l b sheet open_facts)
        (ap (λ (k : ServerState). state_refusal σ k c) (beside_known σ o T l b)
        ∙ by_progress l.progress b.listed.same (waits_apart σ o (waiting l.progress) T.slots T.elements b.listed) c)
        ∙ or_none _
        ∙ sym (by_ledger o l c)
