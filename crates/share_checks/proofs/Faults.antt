-- The refusals of a share, check by check: each test of the code decides one check of the definition, in the same order.
-- Assumes nothing.
use mathlib.Core.Path.{◌≡◌, refl, sym, ◌∙◌}
use mathlib.Core.Bool.{Bool, true, false, cond}
use mathlib.Core.List.{List}
use Prim.Native.Nat.{ℕ, ◌+◌, ◌-◌, ◌*◌, ◌≤◌, ◌<◌}
use native.Mathlib.Omega.{arith}
use borrow.Author.Tests.{lt-ltb, le-ltb, lt-leb, le-leb, ltb-true}
use lib.Dec.{ltb}
use lib.ListN.{take, drop}
use Rattle.std.specs.Prelude.{Option, None, Some, IfSome, is_some}
use Rattle.words.specs.Bytes.{part, elements_of, all_below}
use Rattle.records.specs.Outcome.{or_else}
use Rattle.records.specs.Refusals.{number_of}
use Rattle.records.specs.declared.Refusal.{Refusal}
use Rattle.records.proofs.Outcome.{or_none, or_zero}
use Rattle.records.proofs.Refusals.{first_counts}
use Rattle.slots.specs.declared.Slot.{Slot}
use Rattle.rules.specs.Columns.{check}
use Rattle.rules.specs.Messages.{id_in, brings_seed}
use Rattle.rules.specs.Server.{is_member}
use Rattle.rules.specs.WaitingList.{place_of}
use Rattle.share_message.specs.Shares.{header_fault_at, share_at, share_part}
use Rattle.share_message.proofs.Shares.{part_sound, seed_passes, from_elements}
use Rattle.steps.proofs.Parts.{span, check_holds}
use Rattle.limits.specs.Sheets.{pair_sound}
use Rattle.layout.specs.Places.{ids_at}
use Rattle.layout.specs.declared.Table.{Table}
use Rattle.waiting.specs.Stages.{place_in}
use Rattle.share_checks.specs.Checks.{start_fault, message_fault, is_taken, last_fault}

-- ---- the table, in which so many returns wait
module _ (k : Table) (waiting : ℕ) where
  pub start_closed : k.closed ≡ true → 11 ≡ start_fault k waiting
  unfolding start_fault
  start_closed e = rw e

  module _ (e : k.closed ≡ false) where
    pub start_eight : 8 ≤ waiting → 11 ≡ start_fault k waiting
    unfolding start_fault or_else
    start_eight l = rw (e, le-ltb waiting 8 l)

    pub start_open : waiting < 8 → k.decided + waiting < k.returns → 0 ≡ start_fault k waiting
    unfolding start_fault or_else
    start_open w l = rw (e, lt-ltb waiting 8 w, lt-ltb (k.decided + waiting) k.returns l)

    pub start_full : waiting < 8 → k.returns ≤ k.decided + waiting → 13 ≡ start_fault k waiting
    unfolding start_fault or_else
    start_full w l = rw (e, lt-ltb waiting 8 w, le-ltb (k.decided + waiting) k.returns l)

  -- no refusal: fewer than eight wait
  pub start_few : start_fault k waiting ≡ 0 → waiting < 8
  unfolding start_fault
  start_few z = go k.closed (check (ltb (k.decided + waiting) k.returns) 13) z
    where
      go : (b : Bool) (rest : ℕ) → cond b 11 (or_else (check (ltb waiting 8) 11) rest) ≡ 0 → waiting < 8
      go true rest h = absurd (omega arith)
      go false rest h = ltb-true waiting 8 (check_holds (ltb waiting 8) 10 (or_zero (check (ltb waiting 8) 11) rest h).0)

-- ---- the message
module _ (size own : ℕ) (m : List ℕ) where
  pub message_header : (e : Refusal) → number_of e ≡ header_fault_at size own m → number_of e ≡ message_fault size own m
  unfolding message_fault
  message_header e q = first_counts e (header_fault_at size own m) _ q

  module _ (z : 0 ≡ header_fault_at size own m) where
    message_rest : message_fault size own m ≡ cond (all_below 2147483647 (share_at size m)) 0 8
    unfolding message_fault
    message_rest = rw (← z, or_none)

    pub message_seed : brings_seed m ≡ true → 0 ≡ message_fault size own m
    message_seed b = sym (message_rest ∙ rw (seed_passes size m b))

    -- x is the part behind the header, which is elements
    module _ (b : brings_seed m ≡ false) (x : List ℕ) (ex : x ≡ share_part size own m) where
      elements_are : share_at size m ≡ elements_of 4 x
      elements_are = rw (ex, part_sound size own m (sym z)) (from_elements size m b)

      pub message_sound : all_below 2147483647 (elements_of 4 x) ≡ true → 0 ≡ message_fault size own m
      message_sound h = sym (message_rest ∙ rw (elements_are, h))

      pub message_over : all_below 2147483647 (elements_of 4 x) ≡ false → 8 ≡ message_fault size own m
      message_over h = sym (message_rest ∙ rw (elements_are, h))

-- ---- the id, the pair and the room, as the code finds them: b where the id is decided, o the place where it waits
module _ (T : List ℕ) (k : Table) (list : List Slot) (m : List ℕ) (r s room : ℕ) where
  module _ (a id : ℕ) (ea : a ≡ ids_at k.sheet k.published) (ei : id ≡ id_in m) (b : Bool)
      (eb : b ≡ is_member id (elements_of 4 (take (a + 4 * k.decided - a) (drop a T)))) where
    used_is : is_member (id_in m) (elements_of 4 (part (ids_at k.sheet k.published) (4 * k.decided) T)) ≡ b
    used_is = rw (← ea, ← ei) (sym (rw (span a (4 * k.decided) T) at eb))

    pub last_used : b ≡ true → 10 ≡ last_fault T k list m r s room
    unfolding last_fault is_taken or_else
    last_used e = rw (used_is, e)

    module _ (e : b ≡ false) (o : Option ℕ) (eo : place_in o ≡ place_of id list) (w : IfSome o (λ i. i < 8)) where
      waits_is : ltb (place_of (id_in m) list) 8 ≡ is_some o
      waits_is = rw (← ei, ← eo) (go o w)
        where
          go : (o : Option ℕ) → IfSome o (λ i. i < 8) → ltb (place_in o) 8 ≡ is_some o
          go None w = refl
          go (Some i) w = lt-ltb i 8 w

      pub last_waits : is_some o ≡ true → 10 ≡ last_fault T k list m r s room
      unfolding last_fault is_taken or_else
      last_waits h = rw (used_is, e, waits_is, h)

      module _ (h : is_some o ≡ false) (p : Bool) (eq : p ≡ pair_sound k.gates r s) where
        pub last_pair : p ≡ false → 9 ≡ last_fault T k list m r s room
        unfolding last_fault is_taken or_else
        last_pair n = rw (used_is, e, waits_is, h, ← eq, n)

        pub last_short : p ≡ true → room < 22 → 14 ≡ last_fault T k list m r s room
        unfolding last_fault is_taken or_else
        last_short n l = rw (used_is, e, waits_is, h, ← eq, n, lt-leb 22 room l)

        pub last_none : p ≡ true → 22 ≤ room → 0 ≡ last_fault T k list m r s room
        unfolding last_fault is_taken or_else
        last_none n l = rw (used_is, e, waits_is, h, ← eq, n, le-leb 22 room l)
