-- Messages of round one, one of each server, are not refused 16 exactly where all of them have one pair: the places of the run are
-- the members of the list, so the answer depends neither on their order nor on which place comes first. Assumes nothing.
use mathlib.Core.Path.{◌≡◌, refl, sym, ap, ◌∙◌, subst}
use mathlib.Core.Bool.{Bool, true, false}
use mathlib.Core.List.{List, flatten}
use mathlib.Core.Option.{some}
use Prim.Native.Nat.{ℕ, ◌<◌}
use native.Mathlib.Omega.{arith}
use lib.ListN.{length, length-map}
use Rattle.algebra.specs.Lists.{In, Rearranged, every, count_from}
use Rattle.algebra.proofs.Members.{in_map, of_map, in_count, count_in_lem, length_count}
use Rattle.algebra.proofs.Rearrangement.{rearranged_sym, rearranged_length}
use Rattle.records.specs.Outcome.{or_else}
use Rattle.rules.specs.Settings.{Setting}
use Rattle.rules.specs.Columns.{check}
use Rattle.rules.specs.Messages.{round_length, place_in, same_pair, challenge_fault}
use Rattle.rules.specs.Keyed.{find}
use Rattle.rules.specs.Server.{Waiting, Wait, awaitsOne, held_id, takes, ServerState, message_one, while_open, while_one, one_refusal}
use Rattle.rules.specs.AnyOrder.{SomeOrder}
use Rattle.rules.specs.SameChallenge.{EqualPairs, SameChallenge}
use Rattle.rules.proofs.Histories.MessageBytes.{Sized, cut, cut_flatten, sized}
use Rattle.rules.proofs.Histories.Checks.{check_same}
use Rattle.rules.proofs.Histories.Shuffled.{rearranged_in, rearranged_all}
use Rattle.rules.proofs.Histories.AnyOrder.{takes as takes-order}
use Rattle.rules.proofs.Histories.JoinedRuns.{challenge_passed, passes_challenge}

-- a check that does not pass gives its number
check_failed : (b : Bool) (n : ℕ) → (check b n ≡ 0 → ⊥) → check b n ≡ n
check_failed true n h = absurd (h refl)
check_failed false n h = refl

module _ (σ : Setting) (servers : ℕ) where
  -- all messages of a list have one pair
  abbrev Alike : List (List ℕ) → Type 0
  Alike ms = (m n : List ℕ) → In m ms → In n ms → EqualPairs σ m n

  module _ (ms : List (List ℕ)) (lengths : Sized (round_length σ 34) ms) (many : length ms ≡ servers) where
    places_are : cut (round_length σ 34) servers (flatten ms) ≡ ms
    places_are = subst (λ (n : ℕ). cut (round_length σ 34) n (flatten ms) ≡ ms) many (cut_flatten (round_length σ 34) ms lengths)

    member : (i : ℕ) → i < servers → In (place_in σ 34 (flatten ms) i) ms
    member i l =
        subst (λ (v : List (List ℕ)). In (place_in σ 34 (flatten ms) i) v) places_are
        (in_map (place_in σ 34 (flatten ms)) i (count_from 0 servers) (count_in_lem 0 servers i (omega arith) (omega arith)))

    place_of : (m : List ℕ) → In m ms → (i : ℕ) × (i < servers) × (place_in σ 34 (flatten ms) i ≡ m)
    place_of m k =
        let q = of_map (place_in σ 34 (flatten ms)) m (count_from 0 servers)
        (subst (λ (v : List (List ℕ)). In m v) (sym places_are) k) in
        let b = in_count 0 servers q.0 q.1 in
        (q.0, omega arith, q.2)

    are_alike : challenge_fault σ servers (flatten ms) ≡ 0 → Alike ms
    are_alike e m n a b =
        let i = place_of m a in
        let j = place_of n b in
        subst (λ (v : List ℕ). EqualPairs σ v n) i.2 (subst (EqualPairs σ (place_in σ 34 (flatten ms) i.0)) j.2
        (challenge_passed σ servers (flatten ms) e i.0 j.0 i.1 j.1))

    alike_passes : Alike ms → challenge_fault σ servers (flatten ms) ≡ 0
    alike_passes h = passes_challenge σ servers (flatten ms) (λ i j l b. h _ _ (member i l) (member j b))

  any_alike : (ms ns : List (List ℕ)) → Sized (round_length σ 34) ms → Rearranged ms ns → length ms ≡ servers
      → challenge_fault σ servers (flatten ms) ≡ 0 → challenge_fault σ servers (flatten ns) ≡ 0
  any_alike ms ns lengths r many e =
      let back = rearranged_sym r in
      alike_passes ns (rearranged_all r lengths) (sym (rearranged_length r) ∙ many)
      (λ m n a b. are_alike ms lengths many e m n (rearranged_in m back a) (rearranged_in n back b))

  -- as many messages as servers have the same answer in any order
  pub same_challenge_fault : (ms ns : List (List ℕ)) → Sized (round_length σ 34) ms → Rearranged ms ns → length ms ≡ servers
      → challenge_fault σ servers (flatten ms) ≡ challenge_fault σ servers (flatten ns)
  unfolding challenge_fault
  same_challenge_fault ms ns lengths r many =
      check_same (every (same_pair σ (flatten ms)) (count_from 0 servers)) (every (same_pair σ (flatten ns)) (count_from 0 servers)) 15
      (any_alike ms ns lengths r many)
      (any_alike ns ms (rearranged_all r lengths) (rearranged_sym r) (sym (rearranged_length r) ∙ many))

  -- ---- one message of each server
  module _ (id own : ℕ) (mine joined : List ℕ) (s : SomeOrder σ servers 34 id own mine joined) where
    abbrev ms : List (List ℕ)
    ms = s.messages

    lengths : Sized (round_length σ 34) ms
    lengths = rearranged_all (rearranged_sym s.order) (sized s.message (round_length σ 34) servers s.long)

    many : length ms ≡ servers
    many = rearranged_length s.order ∙ length-map (count_from 0 servers) _ ∙ length_count 0 servers

    stands : (i : ℕ) → i < servers → In (s.message i) ms
    stands i l =
        rearranged_in _ (rearranged_sym s.order)
        (in_map s.message i (count_from 0 servers) (count_in_lem 0 servers i (omega arith) (omega arith)))

    whose : (m : List ℕ) → In m ms → (i : ℕ) × (i < servers) × (s.message i ≡ m)
    whose m k =
        let q = of_map s.message m (count_from 0 servers) (rearranged_in m s.order k) in
        let b = in_count 0 servers q.0 q.1 in
        (q.0, omega arith, q.2)

    pub alike : ((i j : ℕ) → i < servers → j < servers → EqualPairs σ (s.message i) (s.message j)) → challenge_fault σ servers joined ≡ 0
    alike h = ap (challenge_fault σ servers) s.stand ∙ alike_passes ms lengths many each
      where
        each : Alike ms
        each m n a b =
            let i = whose m a in
            let j = whose n b in
            subst (λ (v : List ℕ). EqualPairs σ v n) i.2
            (subst (EqualPairs σ (s.message i.0)) j.2 (h i.0 j.0 i.1 j.1))

    pub differ : (i j : ℕ) → i < servers → j < servers → (EqualPairs σ (s.message i) (s.message j) → ⊥)
        → challenge_fault σ servers joined ≡ 16
    unfolding challenge_fault
    differ i j l b h =
        check_failed (every (same_pair σ joined) (count_from 0 servers)) 16
        (λ e. h (are_alike ms lengths many (ap (challenge_fault σ servers) (sym s.stand) ∙ e) _ _ (stands i l) (stands j b)))

-- on a call: nothing is at fault before, so 16 is the first refusal
call_refused : (σ : Setting) (k : ServerState) (ws : List Wait) (w : Waiting) (id : ℕ) (joined : List ℕ) (room : ℕ) → k.stage ≡ takes ws
    → find held_id id ws ≡ some (awaitsOne w)
    → (s : SomeOrder σ k.opened.servers 34 w.id k.opened.own (message_one σ k.opened w) joined) (i j : ℕ)
    → i < k.opened.servers → j < k.opened.servers → (EqualPairs σ (s.message i) (s.message j) → ⊥)
    → one_refusal σ k id joined room ≡ 16
unfolding one_refusal while_open while_one or_else
call_refused σ k ws w id joined room now found s i j l b h =
    let S = k.opened.servers in
    let mine = message_one σ k.opened w in
    rw (now, found, takes-order σ S 34 w.id k.opened.own mine joined s, differ σ S w.id k.opened.own mine joined s i j l b h)

-- "challenges that differ among round-one messages .. are refused 16"
pub same_challenge : (σ : Setting) → SameChallenge σ
same_challenge σ = record {
  alike = λ servers. alike σ servers;
  differ = λ servers. differ σ servers;
  call_refused = call_refused σ;
}
