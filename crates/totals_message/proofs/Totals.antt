-- Joined totals messages by the number of published entries: rules' definitions at publishedIn, by unfolding both. Element
-- k stands at 6 + 4 k of each message, so that totals are sums of words; and messages without a fault can be summed.
-- Assumes nothing.
use mathlib.Core.Path.{◌≡◌, refl, ap, ◌∙◌}
use mathlib.Core.Bool.{true, ◌&&◌}
use mathlib.Core.List.{List}
use Prim.Native.Nat.{ℕ, ◌+◌, ◌*◌, ◌≤◌, ◌<◌}
use native.Mathlib.Omega.{arith}
use borrow.Author.Tests.{eqb-true, leb-true}
use lib.Dec.{eqb, leb, lit<}
use lib.ListN.{length, get_or, drop, length-drop}
use Rattle.algebra.specs.Lists.{tabulate}
use Rattle.algebra.proofs.Members.{and_left, and_right}
use Rattle.words.specs.Bytes.{value_of, part, all_below}
use Rattle.words.proofs.Splice.{length_part, part_of_drop}
use Rattle.words.proofs.Elements.{element_within}
use Rattle.words.proofs.Below.{all_of_below}
use Rattle.rules.specs.Settings.{document01}
use Rattle.rules.specs.Columns.{Column, published_in, columns_of}
use Rattle.rules.specs.Joining.{accepted_count, sums_in, totals_sound, joined_fault, join_totals}
use Rattle.field.specs.Residues.{prime}
use Rattle.field.proofs.Below.{member_below}
use Rattle.steps.specs.Words.{Words, sum_of}
use Rattle.totals_message.specs.Totals.{totals_bytes, totals_part, totals_sound_at, all_totals_sound}
use Rattle.totals_message.specs.Totals.{joined_fault_at, total_at, SummableTotals}
use Rattle.steps.proofs.Every.{every_at}
use Rattle.steps.proofs.Parts.{check_holds, second, fourth}
use Rattle.steps.proofs.Words.{message_within, words_within, words_sum}

pub joined_fault_lem : (servers : ℕ) (cs : List Column) (returns : ℕ) (joined : List ℕ)
    → joined_fault document01 servers cs returns joined ≡ joined_fault_at servers (published_in cs) returns joined
unfolding joined_fault joined_fault_at all_totals_sound
joined_fault_lem servers cs returns joined = refl

pub join_totals_lem : (servers : ℕ) (sheet joined : List ℕ)
    → join_totals document01 servers sheet joined
    ≡ tabulate (total_at servers (published_in (columns_of sheet)) joined) (published_in (columns_of sheet))
unfolding join_totals total_at
join_totals_lem servers sheet joined = refl

-- ---- sums
module _ (servers published k : ℕ) (joined : List ℕ) (s : SummableTotals servers published k joined) where
  abbrev elements : ℕ → ℕ
  elements i = get_or (sums_in document01 (totals_part published joined i)) k 0

  fits : 6 + 4 * k + 4 ≤ totals_bytes published
  fits = omega (arith, s.one)

  element_word : (i : ℕ) → i < servers → elements i ≡ value_of (part (6 + 4 * k) 4 (totals_part published joined i))
  element_word i h =
      let m = totals_part published joined i in
      let n = totals_bytes published in
      let l : length m ≡ n = length_part (n * i) n joined (message_within n servers joined s.long i h) in
      let d : 4 * k + 4 ≤ length (drop 6 m) = rw length-drop (omega (arith, fits)) in
      element_within 4 (lit< tt) (drop 6 m) k d ∙ ap value_of (part_of_drop (4 * k) 4 6 m)

  pub total_words : Words joined (totals_bytes published) (6 + 4 * k) servers
  total_words =
      words_within (totals_bytes published) servers joined s.long (6 + 4 * k) fits elements element_word s.below

  pub total_sum : sum_of joined (totals_bytes published) (6 + 4 * k) servers ≡ total_at servers published joined k
  unfolding total_at
  total_sum = words_sum (totals_bytes published) servers joined s.long (6 + 4 * k) fits elements element_word

-- ---- messages without a fault
module _ (servers published returns : ℕ) (joined : List ℕ) (sound : joined_fault_at servers published returns joined ≡ 0) where
  all_hold : eqb (length joined) (totals_bytes published * servers)
      && (all_totals_sound servers published (accepted_count joined) joined && leb (accepted_count joined) returns) ≡ true
  unfolding joined_fault_at
  all_hold = check_holds _ 11 sound

  elements_hold : (i : ℕ) → i < servers → all_below prime (sums_in document01 (totals_part published joined i)) ≡ true
  unfolding all_totals_sound totals_sound
  elements_hold i h =
      let m = totals_part published joined i in
      let n = accepted_count joined in
      let every : all_totals_sound servers published n joined ≡ true
      = second (eqb (length joined) (totals_bytes published * servers)) (all_totals_sound servers published n joined) (leb n returns)
      all_hold in
      fourth (eqb (get_or m 0 0) 36) (eqb (get_or m 1 0) i) (eqb (accepted_count m) n) (all_below prime (sums_in document01 m))
      (every_at (totals_sound_at published n joined) servers i every h)

  pub totals_summable : (k : ℕ) → published ≤ 256 → k < published → SummableTotals servers published k joined
  totals_summable k small one = record {
    small = small;
    long = eqb-true (length joined) (totals_bytes published * servers) (and_left _ _ all_hold);
    one = one;
    below = λ i h. member_below _ k (all_of_below prime _ (elements_hold i h));
  }

  pub count_within : accepted_count joined ≤ returns
  count_within =
      let rest = and_right (eqb (length joined) (totals_bytes published * servers)) _ all_hold in
      leb-true (accepted_count joined) returns
      (and_right (all_totals_sound servers published (accepted_count joined) joined) (leb (accepted_count joined) returns) rest)
