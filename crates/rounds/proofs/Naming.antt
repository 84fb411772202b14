-- The return that a call names. What is found under an id in a stage is what rules looks up, so the refusal of a call that takes
-- that stage is 11 where nothing is found, and what the call says of the return where it is. Assumes nothing.
use mathlib.Core.Path.{◌≡◌, refl, ap, ◌∙◌}
use mathlib.Core.Bool.{Bool, true, false, not, cond, ◌&&◌}
use mathlib.Core.List.{List}
use mathlib.Core.Option.{Option, some, none}
use Prim.Native.Nat.{ℕ, zero, suc, ◌≤◌, ◌<◌}
use native.Mathlib.Omega.{arith}
use borrow.Author.Tests.{ltb-true, ltb-false, eqb-true, eqb-false, lt-ltb, le-ltb, eq-eqb, ne_eqb}
use denote.Enum.Declared.{tag_of}
use lib.Dec.{eqb, ltb}
use lib.ListN.{length}
use Rattle.algebra.proofs.Members.{and_left, and_right}
use Rattle.records.specs.Outcome.{Outcome, ok, refused, or_else}
use Rattle.records.proofs.Outcome.{or_none, or_first}
use Rattle.rules.specs.Settings.{document01}
use Rattle.rules.specs.Columns.{check}
use Rattle.rules.specs.Keyed.{find}
use Rattle.rules.specs.Server as rules
use Rattle.rules.specs.Server.{Wait, held_id, while_open, while_one, while_two, while_entry}
use Rattle.rules.specs.WaitingList.{place_of, wait_as}
use Rattle.rules.specs.Table.{Lent, stage_byte, stage_in, table_sound, table_fault, waiting_under}
use Rattle.layout.specs.Numbers.{table_of}
use Rattle.layout.specs.declared.Table.{Table}
use Rattle.waiting.specs.contracts.Stage.{the_type}
use Rattle.waiting.specs.declared.Stage.{Stage}
use Rattle.waiting.specs.declared.Stage.TheVariants as stage
use Rattle.waiting.specs.declared.Waiting.{Waiting}
use Rattle.waiting.specs.Stages.{stage_number}
use Rattle.table.specs.Reading.{found_in, Sound}
use Rattle.table.proofs.Answers.{sound}
use Rattle.table.proofs.Stages.{while_open_lem, once_closed, none_under, not_free, found_under}
use Rattle.table.proofs.Waiting.{stage_at_lem}
use Rattle.rounds.specs.Waits.{slot_in, held_in, Waits}
use Rattle.rounds.specs.Named.{waits_as, named_in}
use Rattle.rounds.specs.declared.named.Named.{Named}
use Rattle.rounds.proofs.Holding.{waits_at_lem}

sound_of : (T : Lent) → table_sound document01 T ≡ true → Sound T (table_of T.bytes)
unfolding found_in
sound_of T e = sound T (table_of T.bytes) (rw e)

-- ---- the stages of a record that is not free
by_stage : (P : ℕ → Type 0) → P 1 → P 2 → P 3 → (m : ℕ) → m ≤ 3 → (m ≡ 0 → ⊥) → P m
by_stage P a b c zero l h = absurd (h refl)
by_stage P a b c (suc zero) l h = a
by_stage P a b c (suc (suc zero)) l h = b
by_stage P a b c (suc (suc (suc zero))) l h = c
by_stage P a b c (suc (suc (suc (suc m)))) l h = absurd (omega arith)

-- ---- the refusal of a call that takes the stage n, and says f of the return
module _ (T : Lent) (id n : ℕ) (while : Option Wait → ℕ) (f : rules.Waiting → ℕ) (at_none : while none ≡ 11)
    (at_some : (m : ℕ) (w : rules.Waiting) → m ≤ 3 → (m ≡ 0 → ⊥) → while (some (wait_as m w)) ≡ cond (eqb m n) (f w) 11) where
  abbrev inside : ℕ
  inside = while_open (stage_in document01 T) (λ ws. while (find held_id id ws))

  sound_by : Sound T (table_of T.bytes) → inside ≡ cond (waits_as T id n) (f (waiting_under document01 T id)) 11
  unfolding waits_as table_of
  sound_by s = go (eqb (stage_byte document01 T.bytes) 0) refl (ltb j (length T.slots)) refl
    where
      j : ℕ
      j = place_of id T.slots

      ws_then : List Wait → ℕ
      ws_then ws = while (find held_id id ws)

      go : (a : Bool) → eqb (stage_byte document01 T.bytes) 0 ≡ a → (b : Bool) → ltb j (length T.slots) ≡ b
          → inside ≡ cond (a && (b && eqb (slot_in T j).stage n)) (f (waiting_under document01 T id)) 11
      go false e b d = once_closed T _ s ws_then (rw e)
      go true e false d =
          while_open_lem T _ s ws_then (rw e)
          ∙ ap while (none_under T _ s id (omega (arith, s.eight, ltb-false j (length T.slots) d)))
          ∙ at_none
      go true e true d =
          let h : j < 8 = omega (arith, s.eight, ltb-true j (length T.slots) d) in
          while_open_lem T _ s ws_then (rw e)
          ∙ ap while (found_under T _ s id h)
          ∙ at_some (slot_in T j).stage (waiting_under document01 T id) (stage_at_lem T _ s j h)
          (eqb-false (slot_in T j).stage 0 (not_free T _ s id h))

  named_refusal : or_else (table_fault document01 T) inside
      ≡ cond (table_sound document01 T && waits_as T id n) (f (waiting_under document01 T id)) 11
  unfolding table_fault
  named_refusal = go (table_sound document01 T) refl
    where
      go : (b : Bool) → table_sound document01 T ≡ b
          → or_else (check b 11) inside ≡ cond (b && waits_as T id n) (f (waiting_under document01 T id)) 11
      go true e = or_none inside ∙ sound_by (sound_of T e)
      go false e = or_first 11 inside (λ z. omega arith)

module _ (T : Lent) (id : ℕ) (f : rules.Waiting → ℕ) where
  pub one_refusal_lem : or_else (table_fault document01 T) (while_open (stage_in document01 T) (λ ws. while_one (find held_id id ws) f))
      ≡ cond (table_sound document01 T && waits_as T id 1) (f (waiting_under document01 T id)) 11
  unfolding while_one wait_as
  one_refusal_lem =
      named_refusal T id 1 (λ x. while_one x f) f refl
      (λ m w. by_stage (λ m. while_one (some (wait_as m w)) f ≡ cond (eqb m 1) (f w) 11) refl refl refl m)

  pub two_refusal_lem : or_else (table_fault document01 T) (while_open (stage_in document01 T) (λ ws. while_two (find held_id id ws) f))
      ≡ cond (table_sound document01 T && waits_as T id 2) (f (waiting_under document01 T id)) 11
  unfolding while_two wait_as
  two_refusal_lem =
      named_refusal T id 2 (λ x. while_two x f) f refl
      (λ m w. by_stage (λ m. while_two (some (wait_as m w)) f ≡ cond (eqb m 2) (f w) 11) refl refl refl m)

pub enter_refusal_lem : (T : Lent) (id : ℕ)
    → or_else (table_fault document01 T) (while_open (stage_in document01 T) (λ ws. while_entry (find held_id id ws)))
    ≡ cond (table_sound document01 T && waits_as T id 3) 0 11
unfolding while_entry wait_as
enter_refusal_lem T id =
    named_refusal T id 3 while_entry (λ _. 0) refl
    (λ m w. by_stage (λ m. while_entry (some (wait_as m w)) ≡ cond (eqb m 3) 0 11) refl refl refl m)

-- ---- what the code finds: a stage is the number that it is cast to
pub stage_is : (s : Stage) → tag_of the_type s ≡ stage_number s
stage_is stage.Free = refl
stage_is stage.AwaitsOne = refl
stage_is stage.AwaitsTwo = refl
stage_is stage.AwaitsEntry = refl

module _ (T : Lent) (id n : ℕ) where
  abbrev at : ℕ
  at = place_of id T.slots

  abbrev here : Named
  here = record { table = table_of T.bytes; at = at; waiting = held_in T at }

  pub named_unsound : (m : ℕ) → refused m ≡ found_in T → refused m ≡ named_in T id n
  unfolding found_in table_fault named_in
  named_unsound m e = go (table_sound document01 T) e
    where
      go : (b : Bool) → refused m ≡ cond b (ok (table_of T.bytes)) (refused (check b 11))
          → refused m ≡ cond (b && waits_as T id n) (ok here) (refused 11)
      go true h = cc
      go false h = cc

  -- an id that does not wait in the stage, whatever else the table is
  not_named : waits_as T id n ≡ false → refused 11 ≡ named_in T id n
  unfolding named_in
  not_named e = go (table_sound document01 T) e
    where
      go : (a : Bool) {b : Bool} → b ≡ false → refused 11 ≡ cond (a && b) (ok here) (refused 11)
      go true q = rw q
      go false q = refl

  pub named_absent : length T.slots ≡ 8 → 8 ≤ at → refused 11 ≡ named_in T id n
  unfolding waits_as
  named_absent l h = not_named (go (eqb (stage_byte document01 T.bytes) 0))
    where
      go : (b : Bool) → b && (ltb at (length T.slots) && eqb (slot_in T at).stage n) ≡ false
      go true = rw (le-ltb at (length T.slots) (omega (arith, l)))
      go false = refl

  pub named_other : ((slot_in T at).stage ≡ n → ⊥) → refused 11 ≡ named_in T id n
  unfolding waits_as
  named_other h =
      not_named
      (go (eqb (stage_byte document01 T.bytes) 0) (ltb at (length T.slots)) (ne_eqb (slot_in T at).stage n h))
    where
      go : (a b : Bool) {c : Bool} → c ≡ false → a && (b && c) ≡ false
      go true true e = e
      go true false e = refl
      go false b e = refl

  module _ (k : Table) (s : Sound T k) where
    pub named_closed : k.closed ≡ true → refused 11 ≡ named_in T id n
    unfolding waits_as table_of
    named_closed h = not_named (go (eqb (stage_byte document01 T.bytes) 0) _ (rw s.says at h))
      where
        go : (b c : Bool) → not b ≡ true → b && c ≡ false
        go true c e = cc
        go false c e = refl

    pub waits_under_lem : (j : ℕ) → j ≡ at → j < 8 → Waits T k j
    waits_under_lem j p h = rw p (waits_at_lem T k s at (omega arith) (not_free T k s id (omega arith)))

    pub named_found : k.closed ≡ false → (j : ℕ) → j ≡ at → j < 8 → (slot_in T j).stage ≡ n → (w : Waiting) → w ≡ held_in T j
        → ok (record { table = k; at = j; waiting = w }) ≡ named_in T id n
    unfolding named_in waits_as table_of
    named_found z j p h x w q =
        let o : eqb (stage_byte document01 T.bytes) 0 ≡ true = go (eqb (stage_byte document01 T.bytes) 0) (rw s.says at z) in
        let l : ltb at (length T.slots) ≡ true = lt-ltb at (length T.slots) (omega (arith, s.eight)) in
        let y : eqb (slot_in T at).stage n ≡ true = eq-eqb (slot_in T at).stage n (rw p at x) in
        rw (q, p, s.says, s.is_sound, o, l, y)
      where
        go : (b : Bool) → not b ≡ false → b ≡ true
        go true e = refl
        go false e = cc

-- ---- what is known of what is found
pub record Names (T : Lent) (id n : ℕ) (k : Table) (j : ℕ) (w : Waiting) : Type 0 where
  pub waits : Waits T k j
  pub stands : table_sound document01 T && waits_as T id n ≡ true
  pub place_is : j ≡ place_of id T.slots
  pub says : w ≡ held_in T j

module _ (T : Lent) (id n : ℕ) where
  abbrev place : ℕ
  place = place_of id T.slots

  pub not_found : (m : ℕ) → refused m ≡ named_in T id n → (table_sound document01 T && waits_as T id n ≡ false) × (m ≡ 11)
  unfolding named_in
  not_found m e = go (table_sound document01 T && waits_as T id n) _ e
    where
      go : (b : Bool) (v : Named) → refused m ≡ cond b (ok v) (refused 11) → (b ≡ false) × (m ≡ 11)
      go true v h = cc
      go false v h = (refl, cc)

  waits_here : table_sound document01 T && waits_as T id n ≡ true → Waits T (table_of T.bytes) place
  unfolding waits_as
  waits_here e =
      let opened = eqb (stage_byte document01 T.bytes) 0 in
      let within = ltb place (length T.slots) in
      let stage = eqb (slot_in T place).stage n in
      let s = sound_of T (and_left (table_sound document01 T) (opened && (within && stage)) e) in
      let h : within ≡ true
      = and_left within stage
      (and_right opened (within && stage) (and_right (table_sound document01 T) (opened && (within && stage)) e)) in
      waits_under_lem T id n (table_of T.bytes) s place refl (omega (arith, s.eight, ltb-true place (length T.slots) h))

  pub names : (v : Named) → ok v ≡ named_in T id n → Names T id n v.table v.at v.waiting
  unfolding named_in
  names v e =
      let b = go (table_sound document01 T && waits_as T id n) _ e in
      rw b.1 (record { waits = waits_here b.0; stands = b.0; place_is = refl; says = refl })
    where
      go : (b : Bool) (x : Named) → ok v ≡ cond b (ok x) (refused 11) → (b ≡ true) × (v ≡ x)
      go true x h = (refl, cc)
      go false x h = cc
