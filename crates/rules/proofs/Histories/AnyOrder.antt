-- Joined messages in any order. Whether a run is without a fault is told by the list of its messages, and neither soundness nor
-- the servers named nor a sum depends on the order of a list; as many messages as servers, none named twice, name each.
-- Assumes nothing.
use mathlib.Core.Path.{◌≡◌, refl, sym, ap, ◌∙◌, subst}
use mathlib.Core.Bool.{Bool, true, false, not, ◌&&◌, ◌||◌}
use mathlib.Core.List.{List, [], map, map-map, map-id, flatten}
use Prim.Native.Nat.{ℕ, suc, ◌*◌, ◌%◌, ◌≤◌, ◌<◌}
use native.Mathlib.Nat.{eq_of_mul-eq-mul_left, mul-le-mul_left}
use native.Mathlib.Omega.{arith}
use borrow.Author.Tests.{eqb-true, eq-eqb}
use lib.Dec.{eqb}
use lib.ListN.{length, length-map}
use Rattle.algebra.specs.Lists.{All, In, Distinct, Rearranged, sum_over, every, count_from}
use Rattle.algebra.specs.Modulo.{modulo}
use Rattle.algebra.specs.Sums.{sum}
use Rattle.algebra.proofs.Members.{all_in, in_all, map_all, of_map, in_count, count_in_lem}
use Rattle.algebra.proofs.Members.{map_same, count_distinct, length_count}
use Rattle.algebra.proofs.Rearrangement.{rearranged_sym, rearranged_length, sum_map}
use Rattle.words.specs.Bytes.{same_bytes}
use Rattle.words.proofs.Same.{equal_same, same_equal}
use Rattle.words.proofs.Splice.{length_part}
use Rattle.rules.specs.Settings.{Setting}
use Rattle.rules.specs.Messages.{server_in, element_in, round_length, place_in, own_kept, place_sound, round_fault, element_sum}
use Rattle.rules.specs.Keyed.{under}
use Rattle.rules.specs.AnyOrder.{SomeOrder}
use Rattle.rules.proofs.Histories.MessageBytes.{Sized, length_flatten, cut_flatten, flatten_cut, sized}
use Rattle.rules.proofs.Histories.ClosingBytes.{sum_modulo}
use Rattle.rules.proofs.Histories.Checks.{check_same}
use Rattle.rules.proofs.Histories.Shuffled.{rearranged_in, rearranged_all, rearranged_distinct, rearranged_map}
use Rattle.rules.proofs.Histories.Keyed.{under_in}
use Rattle.rules.proofs.Histories.JoinedRuns.{Passes, messages, names_each, is_long, passes, passes_fault}

-- the own message, where its server is named
pub own_is : (own : ℕ) (mine m : List ℕ) → own_kept own mine m ≡ true → server_in m ≡ own → m ≡ mine
unfolding own_kept
own_is own mine m e q =
    same_equal m mine (ap (λ (b : Bool). not b || same_bytes m mine) (sym (eq-eqb (server_in m) own q)) ∙ e)

is_own : (own : ℕ) (mine m : List ℕ) → (server_in m ≡ own → m ≡ mine) → own_kept own mine m ≡ true
unfolding own_kept
is_own own mine m h = go (eqb (server_in m) own) refl
  where
    go : (b : Bool) → eqb (server_in m) own ≡ b → (not b || same_bytes m mine) ≡ true
    go true q = equal_same m mine (h (eqb-true _ _ q))
    go false q = refl

module _ (σ : Setting) where
  -- ---- sums
  module _ (kind : ℕ) (ms : List (List ℕ)) (sized : Sized (round_length σ kind) ms) where
    sum_over_lem : (g : List ℕ → ℕ)
        → sum (modulo σ.modulus) (length ms) (λ i. g (place_in σ kind (flatten ms) i)) ≡ sum_over g ms % σ.modulus
    sum_over_lem g =
        sum_modulo σ.modulus (length ms) _
        ∙ ap (λ (k : ℕ). k % σ.modulus)
        (sym (sum_map g (place_in σ kind (flatten ms)) (count_from 0 (length ms)))
        ∙ ap (sum_over g) (cut_flatten (round_length σ kind) ms sized))

    pub element_sum_over : (k n : ℕ) → length ms ≡ n → element_sum σ k kind n (flatten ms) ≡ sum_over (element_in σ k) ms % σ.modulus
    unfolding element_sum
    element_sum_over k n e = ap (λ (v : ℕ). element_sum σ k kind v (flatten ms)) (sym e) ∙ sum_over_lem (element_in σ k)

  module _ (servers kind id own : ℕ) (mine : List ℕ) where
    abbrev Lengths : List (List ℕ) → Type 0
    Lengths = Sized (round_length σ kind)

    abbrev fault : List ℕ → ℕ
    fault = round_fault σ servers kind id own mine

    abbrev test : List ℕ → Bool
    test joined =
        eqb (length joined) (round_length σ kind * servers)
        && every (place_sound σ servers kind id own mine joined) (count_from 0 servers)

    abbrev Good : List (List ℕ) → Type 0
    Good = Passes σ servers kind id own mine

    -- ---- rearranged
    good_any : {ms ns : List (List ℕ)} → Rearranged ms ns → Good ms → Good ns
    good_any r h = record {
      sound = rearranged_all r h.sound;
      apart = rearranged_distinct (rearranged_map server_in r) h.apart;
      kept = rearranged_all r h.kept;
    }

    -- by the list of messages
    module _ (ms : List (List ℕ)) (sized : Lengths ms) where
      pub as_many : fault (flatten ms) ≡ 0 → length ms ≡ servers
      as_many e =
          let long : round_length σ kind * length ms ≡ round_length σ kind * servers =
          sym (length_flatten (round_length σ kind) ms sized) ∙ is_long σ servers kind id own mine (flatten ms) e in
          eq_of_mul-eq-mul_left (round_length σ kind) (omega arith) (length ms) servers long

      cut_again : length ms ≡ servers → messages σ servers kind id own mine (flatten ms) ≡ ms
      cut_again e = subst (λ (n : ℕ). messages σ n kind id own mine (flatten ms) ≡ ms) e (cut_flatten (round_length σ kind) ms sized)

      good_of : fault (flatten ms) ≡ 0 → Good ms
      good_of e = subst Good (cut_again (as_many e)) (passes σ servers kind id own mine (flatten ms) e)

      pub of_good : length ms ≡ servers → Good ms → fault (flatten ms) ≡ 0
      of_good e h =
          passes_fault σ servers kind id own mine (flatten ms)
          (length_flatten (round_length σ kind) ms sized ∙ ap (λ (n : ℕ). round_length σ kind * n) e) (subst Good (sym (cut_again e)) h)

    any_passes : (ms ns : List (List ℕ)) → Lengths ms → Rearranged ms ns → fault (flatten ms) ≡ 0 → fault (flatten ns) ≡ 0
    any_passes ms ns sized r e =
        of_good ns (rearranged_all r sized) (sym (rearranged_length r) ∙ as_many ms sized e) (good_any r (good_of ms sized e))

    pub same_fault : (ms ns : List (List ℕ)) → Lengths ms → Rearranged ms ns → fault (flatten ms) ≡ fault (flatten ns)
    unfolding round_fault
    same_fault ms ns sized r =
        check_same (test (flatten ms)) (test (flatten ns)) 11 (any_passes ms ns sized r)
        (any_passes ns ms (rearranged_all r sized) (rearranged_sym r))

    -- ---- exactly the orders of one message of each
    abbrev from : List (List ℕ) → ℕ → List ℕ
    from ms j = under server_in [] j ms

    from_order : (ms : List (List ℕ)) → length ms ≡ servers → Good ms → Rearranged ms (map (from ms) (count_from 0 servers))
    from_order ms many h =
        let back : map (from ms) (map server_in ms) ≡ ms =
        map-map (from ms) server_in ms
        ∙ map_same (λ m. from ms (server_in m)) (λ m. m) ms (λ m k. under_in server_in [] m ms h.apart k)
        ∙ map-id ms in
        subst (λ (v : List (List ℕ)). Rearranged v (map (from ms) (count_from 0 servers))) back
        (rearranged_map (from ms) (names_each σ servers kind id own mine ms many h))

    -- the message of server j is one of them
    pub record Among (ms : List (List ℕ)) (j : ℕ) : Type 0 where
      is_in : In (from ms j) ms
      names : server_in (from ms j) ≡ j

    among : (ms : List (List ℕ)) → length ms ≡ servers → Good ms → (j : ℕ) → j < servers → Among ms j
    among ms many h j l =
        let named : In j (map server_in ms) =
        rearranged_in j (rearranged_sym (names_each σ servers kind id own mine ms many h))
        (count_in_lem 0 servers j (omega arith) (omega arith)) in
        let m = of_map server_in j ms named in
        let same : from ms j ≡ m.0 = ap (from ms) (sym m.2) ∙ under_in server_in [] m.0 ms h.apart m.1 in
        record {
          is_in = subst (λ (v : List ℕ). In v ms) (sym same) m.1;
          names = ap server_in same ∙ m.2;
        }

    module _ (joined : List ℕ) where
      abbrev ms : List (List ℕ)
      ms = messages σ servers kind id own mine joined

      many : length ms ≡ servers
      many = length-map (count_from 0 servers) _ ∙ length_count 0 servers

      pub placed : length joined ≡ round_length σ kind * servers → (i : ℕ) → i < servers
          → length (place_in σ kind joined i) ≡ round_length σ kind
      placed e i l =
          let within : round_length σ kind * suc i ≤ round_length σ kind * servers = mul-le-mul_left (round_length σ kind) (omega arith) in
          length_part (round_length σ kind * i) (round_length σ kind) joined (omega arith)

      pub taken : fault joined ≡ 0 → SomeOrder σ servers kind id own mine joined
      taken e =
          let h : Good ms = passes σ servers kind id own mine joined e in
          let long : length joined ≡ round_length σ kind * servers = is_long σ servers kind id own mine joined e in
          let at : (j : ℕ) → j < servers → Among ms j = among ms many h in
          record {
            message = from ms;
            long = λ j l. all_in (from ms j) ms (sized (place_in σ kind joined) (round_length σ kind) servers (placed long)) (at j l).is_in;
            sound = λ j l. all_in (from ms j) ms h.sound (at j l).is_in;
            names = λ j l. (at j l).names;
            own_kept_lem = λ l. own_is own mine (from ms own) (all_in (from ms own) ms h.kept (at own l).is_in) (at own l).names;
            messages = ms;
            order = from_order ms many h;
            stand = sym (flatten_cut (round_length σ kind) servers joined long);
          }

      -- what holds of the message of each server holds of each that stands there
      module _ (s : SomeOrder σ servers kind id own mine joined) where
        standing : {P : List ℕ → Type 0} → ((j : ℕ) → j < servers → P (s.message j)) → All P s.messages
        standing h =
            rearranged_all (rearranged_sym s.order)
            (map_all s.message (in_all (count_from 0 servers) (λ j k. (let q = in_count 0 servers j k in h j (omega arith)))))

        each_once : map server_in (map s.message (count_from 0 servers)) ≡ count_from 0 servers
        each_once =
            map-map server_in s.message (count_from 0 servers)
            ∙ map_same (λ j. server_in (s.message j)) (λ j. j) (count_from 0 servers)
            (λ j k. (let q = in_count 0 servers j k in s.names j (omega arith)))
            ∙ map-id (count_from 0 servers)

        own_once : (j : ℕ) → j < servers → server_in (s.message j) ≡ own → s.message j ≡ mine
        own_once j l e =
            let same : j ≡ own = sym (s.names j l) ∙ e in
            ap s.message same ∙ s.own_kept_lem (subst (λ (v : ℕ). v < servers) same l)

        pub takes : fault joined ≡ 0
        takes =
            ap fault s.stand
            ∙ of_good s.messages (standing s.long)
            (rearranged_length s.order ∙ length-map (count_from 0 servers) _ ∙ length_count 0 servers)
            (record {
              sound = standing s.sound;
              apart = rearranged_distinct (rearranged_sym (rearranged_map server_in s.order))
                  (subst Distinct (sym each_once) (count_distinct 0 servers));
              kept = standing (λ j l. is_own own mine (s.message j) (own_once j l));
            })
