-- What is known of a share that is not refused: each check of its list passed. Its elements are as many as a share has,
-- and its id is not among those that wait. Assumes nothing.
use mathlib.Core.Path.{◌≡◌, sym, subst}
use mathlib.Core.Logic.{◌≢◌, inr}
use mathlib.Core.Bool.{Bool, true, not, ◌&&◌}
use mathlib.Core.List.{List, ◌++◌, map}
use Prim.Native.Nat.{ℕ, ◌+◌, ◌^◌, ◌≤◌, ◌<◌}
use native.Mathlib.Omega.{arith}
use borrow.Author.Tests.{ltb-true, not-true}
use lib.Dec.{eqb, ltb}
use lib.ListN.{length}
use Rattle.algebra.specs.Lists.{All, In}
use Rattle.algebra.proofs.Members.{and_left, in_all, append_in}
use Rattle.words.specs.Bytes.{part, all_below}
use Rattle.words.proofs.Numbers.{value_below}
use Rattle.words.proofs.Splice.{length_part}
use Rattle.words.proofs.Below.{all_take, all_drop, all_of_below}
use Rattle.records.proofs.Outcome.{or_zero}
use Rattle.rules.specs.Settings.{Setting, Facts}
use Rattle.rules.specs.Columns.{check}
use Rattle.rules.specs.Judging.{allowed_pair}
use Rattle.rules.specs.Messages.{id_in, server_in, share_in, kind_sound, header_fault, elements_fault}
use Rattle.rules.specs.Server.{Opened, Wait, held_id, most_waiting, is_member, while_open, share_refusal}
use Rattle.rules.specs.Ledger.{Pending, pending_id, is_open, Decided, ids_of, notes_of, note_of}
use Rattle.rules.specs.Ledger.{ledger_wait, ledger_stage, ledger_state}
use Rattle.rules.proofs.Histories.ShareMessages.{kind_long, kind_brings}
use Rattle.rules.proofs.Histories.Checks.{check_passed}
use Rattle.rules.proofs.Histories.Keyed.{no_member_in}
use Rattle.rules.proofs.Histories.Moves.{at, many_used, many_told}
use Rattle.rules.proofs.Tables.Listed.{NoteFits, ids_told}

module _ (σ : Setting) (facts : Facts σ) (o : Opened) (ws : List Pending) (ds : List Decided) (m : List ℕ) (r s room : ℕ) where
  pub record Passed : Type 0 where
    pub few : length ws < most_waiting
    pub left : length ds + length ws < o.returns
    pub fits : NoteFits σ o (note_of σ o m r s)
    pub new : All (λ x. x ≢ id_in m) (map pending_id ws)

  id_below : All (λ b. b < 256) m → 6 ≤ length m → id_in m < 256 ^ 4
  id_below bytes long = value_below 4 (part 1 4 m) (length_part 1 4 m (omega arith)) (all_take _ 4 (all_drop _ 1 bytes))

  pub share_passed : All (λ b. b < 256) m → share_refusal σ (ledger_state σ o (at (is_open ws) ds)) m r s room ≡ 0 → Passed
  unfolding share_refusal while_open ledger_state ledger_stage header_fault elements_fault
  share_passed bytes e =
      let ts : List Wait = map (ledger_wait σ o) ws in
      let used : List ℕ = ids_of (notes_of ds) in
      let all : List ℕ = used ++ map held_id ts in
      let e₀ = or_zero (check (ltb (length ts) most_waiting) 11) _ e in
      let e₁ = or_zero (check (ltb (length used + length ts) o.returns) 13) _ e₀.1 in
      let e₂ = or_zero (header_fault σ o.columns o.own m) _ e₁.1 in
      let e₃ = or_zero (elements_fault σ o.columns m) _ e₂.1 in
      let e₄ = or_zero (check (not (is_member (id_in m) all)) 10) _ e₃.1 in
      let e₅ = or_zero (check (allowed_pair σ o.columns r s) 9) _ e₄.1 in
      let fit : Bool = kind_sound σ o.columns o.own m in
      let named : Bool = eqb (server_in m) o.own in
      let sound : fit ≡ true = and_left fit named (check_passed (fit && named) 6 e₂.0) in
      let less : length ts < most_waiting = ltb-true _ _ (check_passed (ltb (length ts) most_waiting) 10 e₀.0) in
      let under : length used + length ts < o.returns =
      ltb-true _ _ (check_passed (ltb (length used + length ts) o.returns) 12 e₁.0) in
      let out : In (id_in m) all → ⊥ =
      no_member_in (id_in m) all (not-true _ (check_passed (not (is_member (id_in m) all)) 9 e₄.0)) in
      record {
        few = omega (arith, many_told σ o ws);
        left = omega (arith, many_told σ o ws, many_used ds);
        fits = record {
          id_fits = id_below bytes (kind_long σ o.columns o.own m sound);
          pair = check_passed (allowed_pair σ o.columns r s) 8 e₅.0;
          long = kind_brings σ o.columns o.own m facts sound;
          below = all_of_below σ.modulus (share_in σ o.columns m)
              (check_passed (all_below σ.modulus (share_in σ o.columns m)) 7 e₃.0);
        };
        new = in_all (map pending_id ws) (λ x h q.
            out (append_in (id_in m) used (map held_id ts)
            (inr (subst (λ (v : List ℕ). In (id_in m) v) (sym (ids_told σ o ws)) (subst (λ (y : ℕ). In y (map pending_id ws)) q h)))));
      }
