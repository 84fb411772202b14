-- A drop: refused where the table is unsound or closed, or nothing waits under the id; else the return is decided.
-- Assumes nothing.
use mathlib.Core.Path.{◌≡◌, refl, ap, ◌∙◌}
use mathlib.Core.Bool.{true, false}
use mathlib.Core.List.{List}
use Prim.Native.Nat.{ℕ, ◌≤◌, ◌<◌}
use native.Mathlib.Omega.{arith}
use Rattle.slots.specs.declared.Change.{Change}
use Rattle.slots.specs.Slots.{free_slot, applied}
use Rattle.std.specs.Prelude.{Result, Ok, Err, Some}
use Rattle.records.specs.Outcome.{refused, or_else}
use Rattle.records.specs.Refusals.{number_of, outcome_of}
use Rattle.records.specs.declared.Refusal.{Refusal}
use Rattle.records.specs.declared.Refusal.TheVariants as why
use Rattle.records.proofs.Outcome.{or_first}
use Rattle.rules.specs.Settings.{document01}
use Rattle.rules.specs.Keyed.{find}
use Rattle.rules.specs.Server.{held_id, while_open, while_waiting, drop_refusal}
use Rattle.rules.specs.WaitingList.{place_of}
use Rattle.rules.specs.Table.{Lent, stage_in, table_state, drop_refused, drop_table}
use Rattle.layout.specs.declared.Table.{Table}
use Rattle.waiting.specs.Changes.{records_at, lent}
use Rattle.waiting.proofs.Changes.{refused_changes, done_changes}
use Rattle.table.specs.Reading.{found_in, Sound}
use Rattle.table.specs.Deciding.{Decided}
use Rattle.table.proofs.Answers.{unsound, not_refused}
use Rattle.table.proofs.Stages.{waits_of, while_open_lem, once_closed, none_under, found_under}
use Rattle.table.proofs.Decided.{decided_is}
use Rattle.closing.specs.Calls.{Drops}

module _ (T : Lent) (id : ℕ) where
  refuses : (n : ℕ) → drop_refused document01 T id ≡ n → (n ≡ 0 → ⊥) → (r : Result Change Refusal) → outcome_of r ≡ refused n
      → Drops T id r T.bytes T.elements
  refuses n e z (Err f) o = let q : number_of f ≡ n = cc in rw q (refused_changes (drop_refused document01 T id) (drop_table document01 T id) T n e z)
  refuses n e z (Ok c) o = let w : ◌≡◌ {A = ℕ} 0 1 = cc in absurd (omega arith)

  pub drop_unsound : (n : ℕ) → found_in T ≡ refused n → (r : Result Change Refusal) → outcome_of r ≡ refused n
      → Drops T id r T.bytes T.elements
  unfolding drop_refused
  drop_unsound n e r o = let u = unsound T n e in refuses n (rw u.0 (or_first n _ u.1)) u.1 r o

  -- where the table is sound
  module _ (k : Table) (s : Sound T k) where
    refusal_is : drop_refused document01 T id ≡ while_open (stage_in document01 T) (λ ws. while_waiting (find held_id id ws))
    unfolding drop_refused drop_refusal table_state or_else
    refusal_is = rw (not_refused T k s)

    pub drop_closed : k.closed ≡ true → Drops T id (Err why.Stage) T.bytes T.elements
    drop_closed e = refuses 11 (refusal_is ∙ once_closed T k s _ e) (λ z. omega arith) (Err why.Stage) refl

    module _ (is_open_lem : k.closed ≡ false) (j : ℕ) (e : j ≡ place_of id T.slots) where
      found_is : drop_refused document01 T id ≡ while_waiting (find held_id id (waits_of T))
      found_is = refusal_is ∙ while_open_lem T k s _ is_open_lem

      pub drop_none : 8 ≤ j → (r : Result Change Refusal) → outcome_of r ≡ refused 11 → Drops T id r T.bytes T.elements
      unfolding while_waiting
      drop_none h r o = refuses 11 (found_is ∙ ap while_waiting (none_under T k s id (omega arith))) (λ z. omega arith) r o

      none_refused : j < 8 → drop_refused document01 T id ≡ 0
      unfolding while_waiting
      none_refused h = found_is ∙ ap while_waiting (found_under T k s id (omega arith))

      pub drop_done : j < 8 → (c : Change) (t es : List ℕ) → Decided k j 0 id T.bytes T.elements c t es
          → Drops T id (Ok c) t es
      unfolding drop_table
      drop_done h c t es d =
          let new : lent t (applied T.slots (Some (records_at j free_slot))) es ≡ drop_table document01 T id
          = rw d.frees at (decided_is T k s 0 id T.bytes j e c t es d) in
          rw d.frees
          (done_changes (drop_refused document01 T id) (drop_table document01 T id) T j free_slot t es (none_refused h)
          (omega (arith, s.eight)) new)
