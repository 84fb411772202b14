-- Round one: the refusal, the record and the message in the numbers of code are those of rules, for the return that the id names.
-- A call that names none is refused 11 (`one_refusal_lem` of the crate rounds). Assumes nothing.
use mathlib.Core.Path.{◌≡◌, refl, sym, ap, ◌∙◌}
use mathlib.Core.Bool.{cond, ◌&&◌}
use mathlib.Core.List.{List, [], ◌∷◌}
use Prim.Native.Nat.{ℕ, ◌≤◌, ◌<◌}
use native.Mathlib.Omega.{arith}
use borrow.Author.Tests.{le-leb, lt-leb, leb-true, ne_eqb}
use lib.Dec.{leb}
use lib.ListN.{length}
use Rattle.std.specs.Prelude.{Result, Ok, Err, Some}
use Rattle.std.specs.Result.{IsErrAnd}
use Rattle.std.proofs.lemmas.Result.{err_from_is_err_and}
use Rattle.words.specs.Bytes.{splice}
use Rattle.records.specs.Answers.{only_if}
use Rattle.records.specs.Outcome.{refused, or_else}
use Rattle.records.specs.Refusals.{number_of}
use Rattle.records.specs.declared.Refusal.{Refusal}
use Rattle.records.proofs.Outcome.{or_none, or_zero}
use Rattle.records.proofs.Refusals.{number_nonzero, first_counts, second_counts}
use Rattle.slots.specs.declared.Slot.{Slot}
use Rattle.slots.specs.Slots.{applied}
use Rattle.field.specs.Residues.{prime}
use Rattle.rules.specs.Settings.{document01}
use Rattle.rules.specs.Columns.{check}
use Rattle.rules.specs.Making.{message}
use Rattle.rules.specs.Messages.{round_length, round_fault, challenge_fault}
use Rattle.rules.specs.Server as rules
use Rattle.rules.specs.Server.{one_refusal, message_one, message_two, summed}
use Rattle.rules.specs.WaitingList.{waiting_at, place_of}
use Rattle.rules.specs.Table.{Lent, servers_in, own_in, opened_in, table_state, table_sound, waiting_under}
use Rattle.rules.specs.Table.{one_refused, one_taken, one_table, one_bytes}
use Rattle.steps.proofs.Parts.{check_holds}
use Rattle.round_message.specs.Rounds.{Whole}
use Rattle.round_message.proofs.Rounds.{rounds_summable}
use Rattle.layout.specs.Numbers.{table_of, Limited}
use Rattle.layout.specs.declared.Table.{Table}
use Rattle.waiting.specs.declared.Waiting.{Waiting}
use Rattle.waiting.specs.declared.writing.Sent.{Sent}
use Rattle.waiting.specs.Held.{held_at}
use Rattle.waiting.specs.Changes.{records_at, lent}
use Rattle.waiting.proofs.Changes.{refused_changes, done_changes}
use Rattle.rounds.specs.Waits.{numbers_in, held_in}
use Rattle.rounds.specs.Named.{waits_as, named_in}
use Rattle.rounds.specs.declared.named.Named.{Named}
use Rattle.rounds.proofs.Holding.{sharing, sigma_is}
use Rattle.rounds.proofs.Naming.{one_refusal_lem, not_found, Names}
use Rattle.round_one.specs.One.{own_message, one_fault_at, summed_slot, message_at, OneReady}
use Rattle.round_one.specs.Calls.{RoundOne}

-- ---- the checks, in their order
module _ (k : Table) (w : Waiting) (joined : List ℕ) where
  abbrev joins : ℕ
  joins = round_fault document01 k.servers 34 w.id k.own (own_message k w) joined

  abbrev differs : ℕ
  differs = challenge_fault document01 k.servers joined

  pub one_joined : (e : Refusal) (room : ℕ) → number_of e ≡ joins → number_of e ≡ one_fault_at k w joined room
  unfolding one_fault_at
  one_joined e room q = first_counts e joins _ q

  -- messages without a fault: each is whole, and their challenges are next
  module _ (z : 0 ≡ joins) where
    pub one_whole : k.servers ≤ 8 → Whole k.servers 34 joined
    one_whole few =
        record { few = few; long = (rounds_summable k.servers 34 w.id k.own (own_message k w) joined (sym z)).long }

    pub one_differ : (e : Refusal) (room : ℕ) → number_of e ≡ differs → number_of e ≡ one_fault_at k w joined room
    unfolding one_fault_at
    one_differ e room q = second_counts joins _ (number_of e) z (first_counts e differs _ q)

    module _ (y : 0 ≡ differs) where
      pub one_short : (room : ℕ) → room < 14 → 14 ≡ one_fault_at k w joined room
      unfolding one_fault_at
      one_short room h = rw (← z, ← y, lt-leb 14 room h, or_none, or_none)

      pub one_none : (room : ℕ) → 14 ≤ room → 0 ≡ one_fault_at k w joined room
      unfolding one_fault_at
      one_none room h = rw (← z, ← y, le-leb 14 room h, or_none, or_none)

module _ (T : Lent) (id : ℕ) (joined : List ℕ) where
  -- what rules checks of the return
  abbrev checked : ℕ → rules.Waiting → ℕ
  checked room u =
      or_else
      (round_fault document01 (servers_in document01 T.bytes) 34 u.id (own_in document01 T.bytes)
      (message_one document01 (opened_in document01 T.bytes) u) joined)
      (or_else (challenge_fault document01 (servers_in document01 T.bytes) joined) (check (leb (round_length document01 35) room) 14))

  refused_is : (room : ℕ)
      → one_refused document01 T id joined room
      ≡ cond (table_sound document01 T && waits_as T id 1) (checked room (waiting_under document01 T id)) 11
  unfolding one_refused one_refusal table_state
  refused_is room = one_refusal_lem T id (checked room)

  fault_at : (j room : ℕ) → j ≡ place_of id T.slots
      → checked room (waiting_under document01 T id) ≡ one_fault_at (table_of T.bytes) (held_in T j) joined room
  unfolding message_one table_of held_at waiting_at one_fault_at
  fault_at j room e = rw e

  slot_at : (j : ℕ) → j ≡ place_of id T.slots
      → lent T.bytes (applied T.slots (Some (records_at j (summed_slot (table_of T.bytes) (held_in T j) joined)))) T.elements
      ≡ one_table document01 T id joined
  unfolding summed_slot one_table summed waiting_at held_at table_of
  slot_at j e = rw e

  bytes_at : (j : ℕ) → j ≡ place_of id T.slots
      → message_at (table_of T.bytes) (held_in T j) (numbers_in T j) joined ≡ one_bytes document01 T id joined
  unfolding message_at one_bytes message_two summed waiting_at held_at table_of
  bytes_at j e =
      rw e
      (ap (λ (x : ℕ). message document01 35 (waiting_under document01 T id).id (own_in document01 T.bytes)
      (x ∷ (waiting_under document01 T id).tau ∷ []))
      (sigma_is T.bytes (numbers_in T (place_of id T.slots)) (table_of T.bytes) (one_taken document01 T id joined) refl refl))

  -- ---- what the refusal asks for
  pub first_asks : (k : Table) (j : ℕ) (w : Waiting) → Names T id 1 k j w → Limited k × (w.r < prime) × (w.s < prime)
  unfolding held_at
  first_asks k j w n = (n.waits.sound.limited, rw n.says n.waits.r_below, rw n.says n.waits.s_below)

  -- ---- the call
  module _ (out : List ℕ) where
    refused_by_lem : (e : Refusal) → one_refused document01 T id joined (length out) ≡ number_of e
        → RoundOne T id joined out (Err e) out
    unfolding only_if
    refused_by_lem e q = record {
      changes =
          refused_changes (one_refused document01 T id joined (length out)) (one_table document01 T id joined) T (number_of e) q
          (number_nonzero e);
      out_is = rw (q, ne_eqb (number_of e) 0 (number_nonzero e));
      written_is = tt;
    }

    -- a refusal e, which the answer a passes on
    refused_as : (a : Result Sent Refusal) (e : Refusal) → IsErrAnd a (λ y. y ≡ e)
        → one_refused document01 T id joined (length out) ≡ number_of e → RoundOne T id joined out a out
    refused_as a e h q = let p = err_from_is_err_and a h in rw (p.1, p.2) (refused_by_lem e q)

    pub first_unnamed : (a : Result Sent Refusal) (e : Refusal) → IsErrAnd a (λ y. y ≡ e) → refused (number_of e) ≡ named_in T id 1
        → RoundOne T id joined out a out
    first_unnamed a e h q =
        let b = not_found T id 1 (number_of e) q in
        refused_as a e h (refused_is (length out) ∙ rw (b.0, b.1))

    module _ (v : Named) (n : Names T id 1 v.table v.at v.waiting) (f : ℕ)
        (e : f ≡ one_fault_at v.table v.waiting joined (length out)) where
      fault_is : one_refused document01 T id joined (length out) ≡ f
      fault_is =
          let s = n.waits.sound.says in
          refused_is (length out)
          ∙ rw n.stands (fault_at v.at (length out) n.place_is ∙ sym (rw (s, n.says) at e))

      module _ (z : f ≡ 0) (ns : List ℕ) (m : ns ≡ numbers_in T v.at) where
        pub first_ready : OneReady v.table v.waiting ns joined (length out)
        unfolding one_fault_at
        first_ready =
            let k = v.table in
            let joins = round_fault document01 k.servers 34 v.waiting.id k.own (own_message k v.waiting) joined in
            let b = or_zero joins _ (sym e ∙ z) in
            let d = or_zero (challenge_fault document01 k.servers joined) (check (leb 14 (length out)) 14) b.1 in
            record {
              sharing = sharing T k v.at n.waits ns m v.waiting n.says;
              summable = rounds_summable k.servers 34 v.waiting.id k.own (own_message k v.waiting) joined b.0;
              enough = leb-true 14 (length out) (check_holds (leb 14 (length out)) 13 d.1);
            }

        pub first_done : (y : Slot) (out' : List ℕ) → y ≡ summed_slot v.table v.waiting joined
            → out' ≡ splice out 0 (message_at v.table v.waiting ns joined)
            → RoundOne T id joined out (Ok (record { change = records_at v.at y; written = 14 })) out'
        unfolding only_if
        first_done y out' q o =
            let refusal = one_refused document01 T id joined (length out) in
            let none : refusal ≡ 0 = fault_is ∙ z in
            let s = n.waits.sound in
            let t : lent T.bytes (applied T.slots (Some (records_at v.at y))) T.elements ≡ one_table document01 T id joined
            = rw (q, n.says, s.says) (slot_at v.at n.place_is) in
            record {
              changes =
                  done_changes refusal (one_table document01 T id joined) T v.at y T.bytes T.elements none
                  (omega (arith, n.waits.within, s.eight)) t;
              out_is = o ∙ rw (none, s.says, n.says, m) (ap (splice out 0) (bytes_at v.at n.place_is));
              written_is = refl;
            }

    pub first_refused : (v : Named) → Names T id 1 v.table v.at v.waiting → (a : Result Sent Refusal) (e : Refusal)
        → IsErrAnd a (λ y. y ≡ e) → number_of e ≡ one_fault_at v.table v.waiting joined (length out) → RoundOne T id joined out a out
    first_refused v n a e h q = refused_as a e h (fault_is v n (number_of e) q)
