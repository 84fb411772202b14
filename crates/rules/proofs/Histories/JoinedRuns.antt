-- Joined round messages as the list of those that stand in them. They are without a fault exactly where there are S, each is
-- sound, no two name one server, and the one that names the own server is the own message; so each of the S servers is named
-- once, and sums over the places are sums over the servers. Messages of round one that are not refused 16 have one pair.
-- Assumes nothing.
use mathlib.Core.Path.{◌≡◌, sym, ap, ◌∙◌, subst}
use mathlib.Core.Logic.{◌≢◌}
use mathlib.Core.Bool.{Bool, true, not, ◌&&◌}
use mathlib.Core.List.{List, map, map-map}
use Prim.Native.Nat.{ℕ, ◌*◌, ◌%◌, ◌<◌}
use native.Mathlib.Nat.{le_of_eq}
use native.Mathlib.Omega.{arith}
use borrow.Author.Tests.{eqb-true, eqb-false, eq-eqb, ne_eqb, ltb-true, not-true}
use lib.Dec.{eqb, ltb}
use lib.ListN.{length, length-map}
use Rattle.algebra.specs.Lists.{All, In, Distinct, Rearranged, every, count_from}
use Rattle.algebra.specs.Modulo.{modulo}
use Rattle.algebra.specs.Sums.{sum}
use Rattle.words.specs.Bytes.{all_below}
use Rattle.algebra.proofs.Members.{and-true, and_left, and_right, all_in, in_all, map_all, in_map, of_map, in_count, count_in_lem}
use Rattle.algebra.proofs.Members.{count_distinct, length_count, count_apart, apart_count}
use Rattle.algebra.proofs.Rearrangement.{fills, rearranged_sum, sum_map}
use Rattle.rules.specs.Settings.{Setting}
use Rattle.rules.specs.Columns.{check}
use Rattle.rules.specs.Messages.{kind_in, id_in, server_in, elements_in, r_in, s_in, round_length, place_in, server_at, round_sound}
use Rattle.rules.specs.Messages.{still_missing, own_kept, place_sound, round_fault, same_pair, challenge_fault}
use Rattle.rules.specs.SameChallenge.{EqualPairs}
use Rattle.rules.proofs.Histories.MessageBytes.{cut}
use Rattle.rules.proofs.Histories.ClosingBytes.{sum_modulo}
use Rattle.rules.proofs.Histories.Checks.{check_passed, every_at, at_every}

-- a sum over places that name each server once
pub sum_order : (p n : ℕ) (q f : ℕ → ℕ) → Rearranged (map q (count_from 0 n)) (count_from 0 n)
    → sum (modulo p) n (λ j. f (q j)) ≡ sum (modulo p) n f
sum_order p n q f r =
    sum_modulo p n (λ j. f (q j))
    ∙ ap (λ (k : ℕ). k % p) (sym (sum_map f q (count_from 0 n)) ∙ rearranged_sum f r)
    ∙ sym (sum_modulo p n f)

-- a message of one of the servers for a round and an id
pub record IsOf (servers kind id : ℕ) (m : List ℕ) : Type 0 where
  pub kind_is : kind_in m ≡ kind
  pub id_is : id_in m ≡ id
  pub is_one : server_in m < servers

module _ (σ : Setting) (servers kind id : ℕ) where
  pub is_of : (m : List ℕ) → round_sound σ servers kind id m ≡ true → IsOf servers kind id m
  unfolding round_sound
  is_of m e =
      let below : Bool = all_below σ.modulus (elements_in σ m) in
      let c : Bool = ltb (server_in m) servers && below in
      let b : Bool = eqb (id_in m) id && c in
      let e₁ : b ≡ true = and_right (eqb (kind_in m) kind) b e in
      let e₂ : c ≡ true = and_right (eqb (id_in m) id) c e₁ in
      record {
        kind_is = eqb-true (kind_in m) kind (and_left (eqb (kind_in m) kind) b e);
        id_is = eqb-true (id_in m) id (and_left (eqb (id_in m) id) c e₁);
        is_one = ltb-true (server_in m) servers (and_left (ltb (server_in m) servers) below e₂);
      }

  -- what joined messages that are not refused are
  pub record Joined (joined : List ℕ) : Type 0 where
    pub is_of_round : (j : ℕ) → j < servers → IsOf servers kind id (place_in σ kind joined j)
    pub each_once : Rearranged (map (server_at σ kind joined) (count_from 0 servers)) (count_from 0 servers)

  module _ (own : ℕ) (mine : List ℕ) where
    -- messages among which the own one is `mine`
    pub record Passes (ms : List (List ℕ)) : Type 0 where
      pub sound : All (λ m. round_sound σ servers kind id m ≡ true) ms
      pub apart : Distinct (map server_in ms)
      pub kept : All (λ m. own_kept own mine m ≡ true) ms

    -- as many as there are servers name each of them once
    pub names_each : (ms : List (List ℕ)) → length ms ≡ servers → Passes ms → Rearranged (map server_in ms) (count_from 0 servers)
    names_each ms many h =
        fills (map server_in ms) (count_from 0 servers) h.apart (count_distinct 0 servers) one_of
        (le_of_eq (length_count 0 servers ∙ sym many ∙ sym (length-map ms server_in)))
      where
        one_of : (x : ℕ) → In x (map server_in ms) → In x (count_from 0 servers)
        one_of x k =
            let m = of_map server_in x ms k in
            let q : server_in m.0 < servers = (is_of m.0 (all_in m.0 ms h.sound m.1)).is_one in
            let e : server_in m.0 ≡ x = m.2 in
            count_in_lem 0 servers x (omega arith) (omega arith)

    module _ (joined : List ℕ) where
      abbrev whole : Bool
      whole = eqb (length joined) (round_length σ kind * servers)

      abbrev good : ℕ → Bool
      good = place_sound σ servers kind id own mine joined

      abbrev pub messages : List (List ℕ)
      messages = cut (round_length σ kind) servers joined

      servers_are : map server_in messages ≡ map (server_at σ kind joined) (count_from 0 servers)
      servers_are = map-map server_in (place_in σ kind joined) (count_from 0 servers)

      module _ (passed : round_fault σ servers kind id own mine joined ≡ 0) where
        both : (whole && every good (count_from 0 servers)) ≡ true
        unfolding round_fault
        both = check_passed (whole && every good (count_from 0 servers)) 11 passed

        pub is_long : length joined ≡ round_length σ kind * servers
        is_long = eqb-true _ _ (and_left whole (every good (count_from 0 servers)) both)

        good_at : (i : ℕ) → i < servers → good i ≡ true
        good_at = every_at good servers (and_right whole (every good (count_from 0 servers)) both)

        sound_at_lem : (i : ℕ) → i < servers → round_sound σ servers kind id (place_in σ kind joined i) ≡ true
        unfolding place_sound
        sound_at_lem i h = and_left (round_sound σ servers kind id (place_in σ kind joined i)) _ (good_at i h)

        behind : (i : ℕ) → i < servers
            → (still_missing σ kind joined (server_at σ kind joined i) i && own_kept own mine (place_in σ kind joined i)) ≡ true
        unfolding place_sound
        behind i h = and_right (round_sound σ servers kind id (place_in σ kind joined i)) _ (good_at i h)

        differ : (i j : ℕ) → i < j → j < servers → server_at σ kind joined i ≢ server_at σ kind joined j
        unfolding still_missing
        differ i j k l =
            let t : ℕ → Bool = λ v. not (eqb (server_at σ kind joined v) (server_at σ kind joined j)) in
            eqb-false _ _ (not-true _ (every_at t j (and_left (every t (count_from 0 j)) _ (behind j l)) i k))

        each : {P : List ℕ → Type 0} → ((i : ℕ) → i < servers → P (place_in σ kind joined i)) → All P messages
        each h =
            map_all (place_in σ kind joined) (in_all (count_from 0 servers) (λ i k. (let q = in_count 0 servers i k in h i (omega arith))))

        pub passes : Passes messages
        passes = record {
          sound = each sound_at_lem;
          apart = subst Distinct (sym servers_are) (apart_count (server_at σ kind joined) servers differ);
          kept = each (λ i h. and_right (still_missing σ kind joined (server_at σ kind joined i) i) _ (behind i h));
        }

        pub round_passed : Joined joined
        round_passed = record {
          is_of_round = λ j h. is_of (place_in σ kind joined j) (sound_at_lem j h);
          each_once = subst (λ (v : List ℕ). Rearranged v (count_from 0 servers)) servers_are
              (names_each messages (length-map (count_from 0 servers) _ ∙ length_count 0 servers) passes);
        }

      pub passes_fault : length joined ≡ round_length σ kind * servers → Passes messages → round_fault σ servers kind id own mine joined ≡ 0
      unfolding round_fault place_sound still_missing
      passes_fault long h =
          ap (λ (b : Bool). check b 12) (and-true whole (every good (count_from 0 servers)) (eq-eqb _ _ long) (at_every good servers at))
        where
          here : {P : List ℕ → Type 0} → All P messages → (i : ℕ) → i < servers → P (place_in σ kind joined i)
          here all i l =
              all_in (place_in σ kind joined i) messages all
              (in_map (place_in σ kind joined) i (count_from 0 servers) (count_in_lem 0 servers i (omega arith) (omega arith)))

          missing : (i : ℕ) → i < servers → still_missing σ kind joined (server_at σ kind joined i) i ≡ true
          missing i l =
              at_every (λ j. not (eqb (server_at σ kind joined j) (server_at σ kind joined i))) i
              (λ j k. ap not (ne_eqb _ _ (count_apart (server_at σ kind joined) 0 servers (subst Distinct servers_are h.apart)
              j i (omega arith) k (omega arith))))

          at : (i : ℕ) → i < servers → good i ≡ true
          at i l = and-true _ _ (here h.sound i l) (and-true _ _ (missing i l) (here h.kept i l))

-- ---- one pair
module _ (σ : Setting) (servers : ℕ) (joined : List ℕ) where
  -- all places have the same r and the same s
  abbrev pub OneChallenge : Type 0
  OneChallenge = (i j : ℕ) → i < servers → j < servers → EqualPairs σ (place_in σ 34 joined i) (place_in σ 34 joined j)

  pub challenge_passed : challenge_fault σ servers joined ≡ 0 → OneChallenge
  unfolding challenge_fault same_pair
  challenge_passed e i j l b = ((to_first i l).0 ∙ sym (to_first j b).0, (to_first i l).1 ∙ sym (to_first j b).1)
    where
      to_first : (i : ℕ) → i < servers → EqualPairs σ (place_in σ 34 joined i) (place_in σ 34 joined 0)
      to_first i l =
          let m = place_in σ 34 joined i in
          let n = place_in σ 34 joined 0 in
          let q : (eqb (r_in σ m) (r_in σ n) && eqb (s_in σ m) (s_in σ n)) ≡ true =
          every_at (same_pair σ joined) servers (check_passed (every (same_pair σ joined) (count_from 0 servers)) 15 e) i l in (
            eqb-true _ _ (and_left (eqb (r_in σ m) (r_in σ n)) (eqb (s_in σ m) (s_in σ n)) q),
            eqb-true _ _ (and_right (eqb (r_in σ m) (r_in σ n)) (eqb (s_in σ m) (s_in σ n)) q),
          )

  pub passes_challenge : OneChallenge → challenge_fault σ servers joined ≡ 0
  unfolding challenge_fault same_pair
  passes_challenge h =
      ap (λ (b : Bool). check b 16)
      (at_every (same_pair σ joined) servers (λ i l. (
      let q = h i 0 l (omega arith) in
      and-true _ _ (eq-eqb _ _ q.0) (eq-eqb _ _ q.1))))

-- messages of round one that are not refused: one of each server, all with one pair
pub record JoinedOne (σ : Setting) (servers id : ℕ) (joined : List ℕ) : Type 0 where
  pub each : Joined σ servers 34 id joined
  pub one_pair : OneChallenge σ servers joined
