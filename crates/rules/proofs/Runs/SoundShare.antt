-- A sound share handed to a ledger that has room is taken and noted: each check is met by what the message says.
-- Assumes nothing.
use mathlib.Core.Path.{◌≡◌, ap, ap₂, ◌∙◌}
use mathlib.Core.Bool.{true, false}
use mathlib.Core.List.{List, ◌∷◌, ◌++◌, map}
use Prim.Native.Nat.{ℕ, ◌+◌, ◌≤◌, ◌<◌}
use native.Mathlib.Omega.{arith}
use borrow.Author.Tests.{lt-ltb, le-leb}
use lib.Dec.{ltb}
use lib.ListN.{length}
use Rattle.algebra.specs.Lists.{In}
use Rattle.records.specs.Outcome.{or_else}
use Rattle.rules.specs.Settings.{Setting}
use Rattle.rules.specs.Judging.{allowed_pair}
use Rattle.rules.specs.Messages.{id_in, round_length}
use Rattle.rules.specs.Server.{Opened, Wait, held_id, most_waiting, is_member, message_one, share_refusal, while_open}
use Rattle.rules.specs.Ledger.{Call, share, wrote, Note, Pending, waits_one, note_in, Progress, is_open, waiting, Decided, Ledger}
use Rattle.rules.specs.Ledger.{ids_of, notes_of, noted, note_of, ledger_wait, ledger_stage, ledger_state, refusal_of, ledger_after}
use Rattle.rules.specs.Ledger.{answer_of}
use Rattle.rules.specs.Pools.{notes_in}
use Rattle.rules.specs.WholeRun.{Brings}
use Rattle.rules.proofs.Histories.Keyed.{not_in_member}
use Rattle.rules.proofs.Histories.Moves.{at, many_used, many_told, all_ids}

-- the notes of an open ledger
pub notes_are : (l : Ledger) (ws : List Pending) → l.progress ≡ is_open ws → notes_in l ≡ notes_of l.decided ++ map note_in ws
unfolding notes_in
notes_are l ws e = ap (λ (p : Progress). notes_of l.decided ++ map note_in (waiting p)) e

module _ (σ : Setting) (o : Opened) where
  -- a share is taken, and noted as n
  pub record TakenShare (l : Ledger) (c : Call) (n : Note) : Type 0 where
    pub passes : refusal_of σ o l c ≡ 0
    pub writes : answer_of σ o l c ≡ wrote (message_one σ o (noted σ o n))
    pub leaves : ledger_after σ o l c ≡ at (is_open (waits_one n ∷ waiting l.progress)) l.decided

  -- a sound share is
  module _ (ws : List Pending) (ds : List Decided) (id : ℕ) (m xs : List ℕ) (r s room : ℕ)
      (below_eight : length ws < most_waiting) (fewer : length ds + length ws < o.returns)
      (unused : In id (ids_of (notes_of ds ++ map note_in ws)) → ⊥) (id_fits : id < 4294967296)
      (sound : Brings σ o.columns id o.own m xs)
      (pair : allowed_pair σ o.columns r s ≡ true) (enough : round_length σ 34 ≤ room) where
    share_passes : refusal_of σ o (at (is_open ws) ds) (share m r s room) ≡ 0
    unfolding refusal_of ledger_state ledger_stage share_refusal while_open or_else
    share_passes =
        let ts : List Wait = map (ledger_wait σ o) ws in
        let used : List ℕ = ids_of (notes_of ds) in
        let e₀ : ltb (length ts) most_waiting ≡ true = lt-ltb (length ts) most_waiting (omega (arith, many_told σ o ws)) in
        let e₁ : ltb (length used + length ts) o.returns ≡ true =
        lt-ltb (length used + length ts) o.returns (omega (arith, many_told σ o ws, many_used ds)) in
        let e₂ : is_member (id_in m) (used ++ map held_id ts) ≡ false =
        ap₂ is_member (sound.named id_fits) (all_ids σ o ws ds) ∙ not_in_member id (ids_of (notes_of ds ++ map note_in ws)) unused in
        rw (e₀, e₁, sound.header, sound.elements, e₂, pair, le-leb _ _ enough)

    -- what is noted of it
    abbrev sent_note : Note
    sent_note = record { id = id; elements = xs; r = r; s = s }

    noted_share : note_of σ o m r s ≡ sent_note
    noted_share = λ t. record { id = sound.named id_fits t; elements = sound.says t; r = r; s = s }

    pub share_taken_lem : TakenShare (at (is_open ws) ds) (share m r s room) sent_note
    unfolding answer_of ledger_after
    share_taken_lem = record {
      passes = share_passes;
      writes = ap (λ (n : Note). wrote (message_one σ o (noted σ o n))) noted_share;
      leaves = ap (λ (n : Note). at (is_open (waits_one n ∷ ws)) ds) noted_share;
    }
