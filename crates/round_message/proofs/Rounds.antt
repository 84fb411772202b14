-- Joined round messages. Element k stands at 6 + 4 k of each message, so that rules' sums are sums of words at steps of a message's
-- length, and the server at 5; and messages without a fault can be summed. Assumes nothing.
use mathlib.Core.Path.{◌≡◌, refl, sym, ap, ap₂, ◌∙◌}
use mathlib.Core.Bool.{Bool, true, false, cond, ◌&&◌}
use mathlib.Core.List.{List}
use Prim.Native.Nat.{ℕ, ◌+◌, ◌-◌, ◌*◌, ◌≤◌, ◌<◌}
use native.Mathlib.Nat.{mul-le-mul}
use native.Mathlib.Omega.{arith}
use borrow.Author.Tests.{eqb-true}
use lib.Dec.{eqb, ltb, lit<}
use lib.ListN.{length, get_or, take, drop, length-drop}
use lib.Seq.{get_or-take, get_or-drop}
use Rattle.algebra.proofs.Members.{and_left, and_right}
use Rattle.words.specs.Bytes.{value_of, part, all_below}
use Rattle.words.proofs.Splice.{length_part, part_of_drop}
use Rattle.words.proofs.Elements.{element_within}
use Rattle.words.proofs.Below.{all_of_below}
use Rattle.rules.specs.Settings.{document01}
use Rattle.rules.specs.Columns.{check}
use Rattle.rules.specs.Messages.{kind_in, id_in, server_in, elements_in, element_in, round_elements, round_length, place_in, server_at}
use Rattle.rules.specs.Messages.{round_sound, still_missing, own_kept, place_sound, round_fault, element_sum}
use Rattle.field.specs.Residues.{prime}
use Rattle.field.proofs.Below.{member_below}
use Rattle.steps.specs.Words.{Words, word_of, sum_of}
use Rattle.round_message.specs.Rounds.{InPlace, Whole, Summable, all_sound}
use Rattle.steps.proofs.Every.{every_at}
use Rattle.steps.proofs.Parts.{span, check_holds, fourth, part_of_part}
use Rattle.steps.proofs.Words.{message_within, words_within, words_sum}

-- ---- lengths
-- a round's message has two elements at least, and four at most
elements_few : (kind : ℕ) → (2 ≤ round_elements kind) × (round_elements kind ≤ 4)
elements_few kind = go (eqb kind 34)
  where
    go : (b : Bool) → (2 ≤ cond b 4 2) × (cond b 4 2 ≤ 4)
    go true = (omega arith, omega arith)
    go false = (omega arith, omega arith)

-- a message at a place, by a size that is its length
module _ (kind size : ℕ) (e : size ≡ round_length document01 kind) where
  pub size_least : round_length document01 35 ≤ size
  size_least = omega (arith, (elements_few kind).0)

  pub place_within : (i : ℕ) (joined : List ℕ) → InPlace kind i joined → size * i + size ≤ length joined
  place_within i joined p = rw e p.long

  -- S of them
  pub whole_few : (servers : ℕ) → servers ≤ 8 → size * servers ≤ 176
  whole_few servers h =
      let l : size ≤ 22 = omega (arith, (elements_few kind).1) in
      mul-le-mul {n₁ = size} {m₁ = servers} {n₂ = 22} {m₂ = 8} l h

-- each place of whole messages
pub whole_place : (servers kind : ℕ) (joined : List ℕ) (i : ℕ) → Whole servers kind joined → i < servers → InPlace kind i joined
whole_place servers kind joined i w h =
    record { few = omega (arith, w.few); long = message_within (round_length document01 kind) servers joined w.long i h }

-- ---- elements
module _ (kind k : ℕ) (one : k < round_elements kind) where
  fits : 6 + 4 * k + 4 ≤ round_length document01 kind
  fits = omega (arith, one)

  -- element k of the message at a place that lies within
  element_in_lem : (joined : List ℕ) (i : ℕ) → round_length document01 kind * i + round_length document01 kind ≤ length joined
      → element_in document01 k (place_in document01 kind joined i) ≡ value_of (part (6 + 4 * k) 4 (place_in document01 kind joined i))
  element_in_lem joined i h =
      let m = place_in document01 kind joined i in
      let size = round_length document01 kind in
      let l : length m ≡ size = length_part (size * i) size joined h in
      let d : 4 * k + 4 ≤ length (drop 6 m) = rw length-drop (omega (arith, one)) in
      element_within 4 (lit< tt) (drop 6 m) k d ∙ ap value_of (part_of_drop (4 * k) 4 6 m)

  pub element_word : (joined : List ℕ) (i : ℕ) → round_length document01 kind * i + round_length document01 kind ≤ length joined
      → element_in document01 k (place_in document01 kind joined i) ≡ word_of joined (round_length document01 kind) (6 + 4 * k) i
  element_word joined i h =
      let size = round_length document01 kind in
      element_in_lem joined i h ∙ ap value_of (part_of_part (6 + 4 * k) 4 (size * i) size joined fits)

  -- ---- sums
  module _ (servers : ℕ) (joined : List ℕ) (s : Summable servers kind joined) where
    abbrev elements : ℕ → ℕ
    elements i = element_in document01 k (place_in document01 kind joined i)

    elements_are : (i : ℕ) → i < servers → elements i ≡ value_of (part (6 + 4 * k) 4 (place_in document01 kind joined i))
    elements_are i h = element_in_lem joined i (message_within (round_length document01 kind) servers joined s.long i h)

    pub element_words : Words joined (round_length document01 kind) (6 + 4 * k) servers
    element_words =
        words_within (round_length document01 kind) servers joined s.long (6 + 4 * k) fits elements elements_are
        (λ i h. s.below k i one h)

    pub element_sum_lem : sum_of joined (round_length document01 kind) (6 + 4 * k) servers ≡ element_sum document01 k kind servers joined
    unfolding element_sum
    element_sum_lem = words_sum (round_length document01 kind) servers joined s.long (6 + 4 * k) fits elements elements_are

-- ---- faults
-- the server that a place names, as a byte of the joined messages
pub server_byte : (kind : ℕ) (joined : List ℕ) (j : ℕ)
    → server_at document01 kind joined j ≡ get_or joined (round_length document01 kind * j + 5) 0
server_byte kind joined j =
    let size = round_length document01 kind in
    get_or-take size (drop (size * j) joined) 5 0 (omega arith) ∙ get_or-drop (size * j) joined 5 0

module _ (servers kind id own : ℕ) (mine joined : List ℕ) where
  -- a place by the part that the code takes from it
  abbrev taken : ℕ → List ℕ
  taken i =
      let size = round_length document01 kind in
      take (size * i + size - size * i) (drop (size * i) joined)

  pub place_tests : (i : ℕ) → place_sound document01 servers kind id own mine joined i
      ≡ (round_sound document01 servers kind id (taken i)
      && (still_missing document01 kind joined (get_or joined (round_length document01 kind * i + 5) 0) i && own_kept own mine (taken i)))
  unfolding place_sound
  place_tests i =
      let size = round_length document01 kind in
      ap₂
      (λ (m : List ℕ) (k : ℕ).
      round_sound document01 servers kind id m && (still_missing document01 kind joined k i && own_kept own mine m))
      (sym (span (size * i) size joined)) (server_byte kind joined i)

  pub round_fault_lem : round_fault document01 servers kind id own mine joined
      ≡ check (eqb (length joined) (round_length document01 kind * servers) && all_sound servers kind id own mine joined) 12
  unfolding round_fault all_sound
  round_fault_lem = refl

-- messages without a fault
module _ (servers kind id own : ℕ) (mine joined : List ℕ) (sound : round_fault document01 servers kind id own mine joined ≡ 0) where
  all_hold : eqb (length joined) (round_length document01 kind * servers) && all_sound servers kind id own mine joined ≡ true
  all_hold = check_holds _ 11 (rw round_fault_lem at sound)

  -- what else is tested at a place
  abbrev behind : ℕ → Bool
  behind i =
      still_missing document01 kind joined (server_at document01 kind joined i) i && own_kept own mine (place_in document01 kind joined i)

  elements_hold : (i : ℕ) → i < servers → all_below prime (elements_in document01 (place_in document01 kind joined i)) ≡ true
  unfolding all_sound place_sound round_sound
  elements_hold i h =
      let m = place_in document01 kind joined i in
      fourth (eqb (kind_in m) kind) (eqb (id_in m) id) (ltb (server_in m) servers) (all_below prime (elements_in document01 m))
      (and_left (round_sound document01 servers kind id m) (behind i)
      (every_at (place_sound document01 servers kind id own mine joined) servers i
      (and_right (eqb (length joined) (round_length document01 kind * servers)) (all_sound servers kind id own mine joined) all_hold) h))

  pub rounds_summable : Summable servers kind joined
  rounds_summable = record {
    long = eqb-true (length joined) (round_length document01 kind * servers) (and_left _ _ all_hold);
    below = λ k i one h. member_below _ k (all_of_below prime _ (elements_hold i h));
  }
