-- Messages that servers wrote for a round and an id: each is read back, so that all of them, in any order, are without a fault at
-- each server and add up to the sums of what was written; where one pair was written they are not refused 16 either. Assumes that
-- ids and elements fit.
use mathlib.Core.Path.{◌≡◌, refl, sym, ap, ◌∙◌}
use mathlib.Core.Bool.{true}
use mathlib.Core.List.{List, map, flatten}
use Prim.Native.Nat.{ℕ, ◌+◌, ◌*◌, ◌%◌, ◌<◌}
use native.Mathlib.Omega.{arith}
use borrow.Author.Tests.{eq-eqb, lt-ltb}
use lib.Dec.{ltb}
use lib.ListN.{length, get_or, length-map}
use Rattle.algebra.specs.Lists.{All, Rearranged, sum_over, count_from}
use Rattle.algebra.specs.Modulo.{modulo}
use Rattle.algebra.specs.Sums.{sum}
use Rattle.algebra.proofs.Members.{in_count, length_count}
use Rattle.algebra.proofs.Rearrangement.{rearranged_sym, rearranged_length, rearranged_sum, sum_map, sum_cong}
use Rattle.words.specs.Bytes.{all_below}
use Rattle.words.proofs.Below.{below_of_all}
use Rattle.rules.specs.Settings.{Setting, Facts}
use Rattle.rules.specs.Making.{message}
use Rattle.rules.specs.Messages.{server_in, elements_in, element_in, round_elements, round_length, round_sound, round_fault, element_sum}
use Rattle.rules.specs.AnyOrder.{SomeOrder}
use Rattle.rules.proofs.Histories.MessageBytes.{length_message, kind_read, id_read, server_read, elements_read, Sized, sized}
use Rattle.rules.proofs.Histories.ClosingBytes.{sum_modulo}
use Rattle.rules.proofs.Histories.Shuffled.{rearranged_all}
use Rattle.rules.proofs.Histories.AnyOrder.{element_sum_over, takes}

module _ (σ : Setting) where
  -- joined messages of the elements xs j: they are some order of one message of each, and add up to the sums of these
  pub record Written (servers kind id : ℕ) (xs : ℕ → List ℕ) (joined : List ℕ) : Type 0 where
    pub in_order_lem : (own : ℕ) → SomeOrder σ servers kind id own (message σ kind id own (xs own)) joined
    pub reads : (own j : ℕ) → j < servers → elements_in σ ((in_order_lem own).message j) ≡ xs j
    pub passes : (own : ℕ) → own < servers → round_fault σ servers kind id own (message σ kind id own (xs own)) joined ≡ 0
    pub sums : (k : ℕ) → element_sum σ k kind servers joined ≡ sum (modulo σ.modulus) servers (λ j. get_or (xs j) k 0)

  module _ (facts : Facts σ) (servers kind id : ℕ) (xs : ℕ → List ℕ) (id_fits : id < 4294967296)
      (many_xs : (j : ℕ) → j < servers → length (xs j) ≡ round_elements kind)
      (below : (j : ℕ) → j < servers → All (λ x. x < σ.modulus) (xs j)) where
    abbrev written_by : ℕ → List ℕ
    written_by j = message σ kind id j (xs j)

    read_at : (j : ℕ) → j < servers → elements_in σ (written_by j) ≡ xs j
    read_at j h = elements_read σ kind id j (xs j) facts (below j h)

    long_at : (j : ℕ) → j < servers → length (written_by j) ≡ round_length σ kind
    long_at j h = length_message σ kind id j (xs j) ∙ ap (λ (n : ℕ). 6 + σ.width * n) (many_xs j h)

    sound_at_lem : (j : ℕ) → j < servers → round_sound σ servers kind id (written_by j) ≡ true
    unfolding round_sound
    sound_at_lem j h =
        let m = written_by j in
        let s : server_in m ≡ j = server_read σ kind id j (xs j) in
        let a : all_below σ.modulus (elements_in σ m) ≡ true =
        ap (all_below σ.modulus) (read_at j h) ∙ below_of_all σ.modulus (xs j) (below j h) in
        let c : ltb (server_in m) servers ≡ true = lt-ltb (server_in m) servers (rw s h) in
        rw (eq-eqb _ _ (kind_read σ kind id j (xs j)), eq-eqb _ _ (id_read σ kind id j (xs j) id_fits), c, a)

    module _ (ms : List (List ℕ)) (order : Rearranged ms (map written_by (count_from 0 servers))) where
      many : length ms ≡ servers
      many = rearranged_length order ∙ length-map (count_from 0 servers) _ ∙ length_count 0 servers

      lengths : Sized (round_length σ kind) ms
      lengths = rearranged_all (rearranged_sym order) (sized written_by (round_length σ kind) servers long_at)

      abbrev some_order : (own : ℕ) → SomeOrder σ servers kind id own (written_by own) (flatten ms)
      some_order own = record {
        message = written_by;
        long = long_at;
        sound = sound_at_lem;
        names = λ j l. server_read σ kind id j (xs j);
        own_kept_lem = λ l. refl;
        messages = ms;
        order = order;
        stand = refl;
      }

      -- a sum over them is one over the servers
      sum_all : (g : List ℕ → ℕ) (z : ℕ → ℕ) → ((j : ℕ) → j < servers → g (written_by j) ≡ z j)
          → sum_over g ms % σ.modulus ≡ sum (modulo σ.modulus) servers z
      sum_all g z h =
          ap (λ (k : ℕ). k % σ.modulus)
          (rearranged_sum g order
          ∙ sum_map g written_by (count_from 0 servers)
          ∙ sum_cong (λ j. g (written_by j)) z (count_from 0 servers) (λ j k. (let q = in_count 0 servers j k in h j (omega arith))))
          ∙ sym (sum_modulo σ.modulus servers z)

      pub written : Written servers kind id xs (flatten ms)
      written = record {
        in_order_lem = some_order;
        reads = λ own. read_at;
        passes = λ own l. takes σ servers kind id own (written_by own) (flatten ms) (some_order own);
        sums = λ k. element_sum_over σ kind ms lengths k servers many
            ∙ sum_all (element_in σ k) (λ j. get_or (xs j) k 0) (λ j l. ap (λ (v : List ℕ). get_or v k 0) (read_at j l));
      }
