-- Round two: the refusal, the verdict and the table in the numbers of code are those of rules, for the return that the id names.
-- A call that names none is refused 11 (`two_refusal_lem` of the crate rounds). Assumes nothing.
use mathlib.Core.Path.{◌≡◌, refl, sym, ap, ◌∙◌}
use mathlib.Core.Bool.{Bool, true, false, cond, ◌&&◌}
use mathlib.Core.List.{List, [], ◌∷◌}
use Prim.Native.Nat.{ℕ}
use native.Mathlib.Omega.{arith}
use borrow.Author.Tests.{ne_eqb}
use lib.Dec.{lit≤, eqb}
use Rattle.std.specs.Prelude.{Result, Ok, Err, Some}
use Rattle.std.specs.Result.{IsErrAnd}
use Rattle.std.proofs.lemmas.Result.{err_from_is_err_and}
use Rattle.records.specs.Outcome.{refused}
use Rattle.records.specs.Refusals.{number_of}
use Rattle.records.specs.declared.Refusal.{Refusal}
use Rattle.records.proofs.Refusals.{number_nonzero}
use Rattle.slots.specs.declared.Slot.{Slot}
use Rattle.slots.specs.declared.Change.{Change}
use Rattle.slots.specs.Slots.{free_slot, applied}
use Rattle.rules.specs.Settings.{document01}
use Rattle.rules.specs.Making.{message}
use Rattle.rules.specs.Messages.{round_fault, first_sum, second_sum, both_zero}
use Rattle.rules.specs.Server as rules
use Rattle.rules.specs.Server.{two_refusal, message_two}
use Rattle.rules.specs.WaitingList.{waiting_at, place_of}
use Rattle.rules.specs.Table.{Lent, servers_in, own_in, opened_in, table_state, table_sound, waiting_under}
use Rattle.rules.specs.Table.{two_refused, two_verdict, accepted_table, two_table}
use Rattle.round_message.specs.Rounds.{Summable}
use Rattle.round_message.proofs.Rounds.{rounds_summable}
use Rattle.layout.specs.Numbers.{table_of}
use Rattle.layout.specs.declared.Table.{Table}
use Rattle.waiting.specs.declared.Waiting.{Waiting}
use Rattle.waiting.specs.Held.{held_at}
use Rattle.waiting.specs.Changes.{records_at, lent}
use Rattle.waiting.proofs.Changes.{refused_changes, done_changes}
use Rattle.table.specs.Deciding.{Placed, Decided}
use Rattle.table.proofs.Decided.{placed, decided_is}
use Rattle.rounds.specs.Waits.{numbers_in, held_in}
use Rattle.rounds.specs.Named.{waits_as, named_in}
use Rattle.rounds.specs.declared.named.Named.{Named}
use Rattle.rounds.proofs.Holding.{sigma_is}
use Rattle.rounds.proofs.Naming.{two_refusal_lem, not_found, Names}
use Rattle.round_two.specs.Two.{two_fault_at, accepted_slot}
use Rattle.round_two.specs.Calls.{RoundTwo}
use Rattle.round_two.specs.declared.Decision.{Decision}

module _ (T : Lent) (id : ℕ) (joined : List ℕ) where
  -- ---- the refusal: what rules checks of the return
  abbrev checked : rules.Waiting → ℕ
  checked u =
      round_fault document01 (servers_in document01 T.bytes) 35 u.id (own_in document01 T.bytes)
      (message_two document01 (opened_in document01 T.bytes) u) joined

  refused_is : two_refused document01 T id joined
      ≡ cond (table_sound document01 T && waits_as T id 2) (checked (waiting_under document01 T id)) 11
  unfolding two_refused two_refusal table_state
  refused_is = two_refusal_lem T id checked

  fault_at : (j : ℕ) → j ≡ place_of id T.slots
      → checked (waiting_under document01 T id) ≡ two_fault_at (table_of T.bytes) (held_in T j) (numbers_in T j) joined
  unfolding message_two table_of held_at waiting_at two_fault_at
  fault_at j e =
      let u = waiting_under document01 T id in
      rw e
      (ap (λ (x : ℕ). round_fault document01 (servers_in document01 T.bytes) 35 u.id (own_in document01 T.bytes)
      (message document01 35 u.id (own_in document01 T.bytes) (x ∷ u.tau ∷ [])) joined)
      (sym (sigma_is T.bytes (numbers_in T (place_of id T.slots)) (table_of T.bytes) u refl refl)))

  -- ---- the verdict, and what it does to the table
  verdict_at : both_zero document01 (table_of T.bytes).servers joined ≡ two_verdict document01 T joined
  unfolding two_verdict table_of
  verdict_at = refl

  accepted_at_lem : (j : ℕ) → j ≡ place_of id T.slots
      → lent T.bytes (applied T.slots (Some (records_at j (accepted_slot (held_in T j))))) T.elements ≡ accepted_table document01 T id
  unfolding accepted_table waiting_at held_at
  accepted_at_lem j e = rw e

  -- ---- the call: a refusal e, which the answer a passes on
  refused_as : (a : Result Decision Refusal) (e : Refusal) → IsErrAnd a (λ y. y ≡ e) → two_refused document01 T id joined ≡ number_of e
      → RoundTwo T id joined a T.bytes T.elements
  refused_as a e h q =
      let p = err_from_is_err_and a h in
      rw (p.1, p.2)
      (record {
        changes =
            refused_changes (two_refused document01 T id joined) (two_table document01 T id joined) T (number_of e) q
            (number_nonzero e);
        accepted_is = tt;
      })

  pub second_unnamed : (a : Result Decision Refusal) (e : Refusal) → IsErrAnd a (λ y. y ≡ e) → refused (number_of e) ≡ named_in T id 2
      → RoundTwo T id joined a T.bytes T.elements
  second_unnamed a e h q =
      let b = not_found T id 2 (number_of e) q in
      refused_as a e h (refused_is ∙ rw (b.0, b.1))

  module _ (v : Named) (n : Names T id 2 v.table v.at v.waiting) where
    pub second_placed : Placed T.bytes v.table T.elements v.at 0
    second_placed = placed T v.table n.waits.sound v.at n.waits.within n.waits.not_free T.bytes refl 0 (lit≤ tt)

    module _ (ns : List ℕ) (m : ns ≡ numbers_in T v.at) where
      fault_is : (f : ℕ) → f ≡ two_fault_at v.table v.waiting ns joined → two_refused document01 T id joined ≡ f
      fault_is f e =
          let s = n.waits.sound.says in
          refused_is ∙ rw n.stands (fault_at v.at n.place_is ∙ sym (rw (s, n.says, m) at e))

      pub second_refused : (a : Result Decision Refusal) (e : Refusal) → IsErrAnd a (λ y. y ≡ e)
          → number_of e ≡ two_fault_at v.table v.waiting ns joined → RoundTwo T id joined a T.bytes T.elements
      second_refused a e h q = refused_as a e h (fault_is (number_of e) q)

      module _ (z : 0 ≡ two_fault_at v.table v.waiting ns joined) where
        pub second_summable : Summable v.table.servers 35 joined
        unfolding two_fault_at
        second_summable = rounds_summable v.table.servers 35 v.waiting.id v.table.own _ joined (sym z)

        module _ (b : Bool) (q : b ≡ both_zero document01 v.table.servers joined) where
          verdict_is : b ≡ two_verdict document01 T joined
          verdict_is = q ∙ rw (n.waits.sound.says, verdict_at)

          -- the record y at its place, the bytes t and the numbers es are those of rules' table
          done_by : (y : Slot) (t es : List ℕ)
              → lent t (applied T.slots (Some (records_at v.at y))) es ≡ two_table document01 T id joined
              → RoundTwo T id joined (Ok (record { change = records_at v.at y; accepted = b })) t es
          done_by y t es l = record {
            changes =
                done_changes (two_refused document01 T id joined) (two_table document01 T id joined) T v.at y t es
                (fault_is 0 z) (omega (arith, n.waits.within, n.waits.sound.eight)) l;
            accepted_is = verdict_is;
          }

          pub second_rejected : b ≡ false → (c : Change) (t es : List ℕ) → Decided v.table v.at 0 id T.bytes T.elements c t es
              → RoundTwo T id joined (Ok (record { change = c; accepted = b })) t es
          unfolding two_table
          second_rejected e c t es d =
              let l = decided_is T v.table n.waits.sound 0 id T.bytes v.at n.place_is c t es d in
              rw d.frees (done_by free_slot t es (rw d.frees at l ∙ rw (sym verdict_is ∙ e)))

          pub second_accepted : b ≡ true → (y : Slot) → y ≡ accepted_slot v.waiting
              → RoundTwo T id joined (Ok (record { change = records_at v.at y; accepted = b })) T.bytes T.elements
          unfolding two_table
          second_accepted h y e =
              done_by y T.bytes T.elements (rw (e, n.says, sym verdict_is ∙ h) (accepted_at_lem v.at n.place_is))
