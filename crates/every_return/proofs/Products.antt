-- How many lists there are, column by column: a column more in front or behind multiplies, and no column has no value, so the
-- first columns never have more lists than all. Assumes nothing.
use mathlib.Core.Path.{◌≡◌, refl, ap, ◌∙◌}
use mathlib.Core.List.{List, [], ◌∷◌}
use Prim.Native.Nat.{ℕ, zero, suc, ◌*◌, ◌≤◌, ◌<◌}
use native.Mathlib.Decide.{dec_le}
use native.Mathlib.Nat.{mul-pos, le-mul_of_pos_right}
use native.Mathlib.Omega.{arith}
use borrow.Author.Tests.{le-leb, lt-leb}
use lib.ListN.{length, get_or, take, drop}
use lib.Pow.{pow_pos}
use Rattle.algebra.specs.Lists.{All, all[], all∷}
use Rattle.words.proofs.Below.{all_drop}
use Rattle.records.specs.Outcome.{ok, refused}
use Rattle.rules.specs.Columns.{Column, yes_no, choice, number, top, point, values_of}
use Rattle.rules.specs.EveryReturn.{lists_in, most_lists}
use Rattle.rules.proofs.Circuits.Limits.{InLimits}
use Rattle.every_return.specs.Listing.{counted_up}

pub values_pos : (c : Column) → InLimits c → 0 < values_of c
unfolding values_of
values_pos yes_no h = omega arith
values_pos (choice n) h = omega (arith, h.0)
values_pos (number n) h = pow_pos n
values_pos (top n) h = omega arith
values_pos (point n) h = mul-pos (pow_pos n) (pow_pos n)

lists_pos : (cs : List Column) → All InLimits cs → 0 < lists_in cs
unfolding lists_in
lists_pos [] all[] = omega arith
lists_pos (c ∷ cs) (all∷ h hs) = mul-pos (values_pos c h) (lists_pos cs hs)

-- one column more in front, by place
pub lists_from : (cs : List Column) (k : ℕ) → k < length cs
    → lists_in (drop k cs) ≡ values_of (get_or cs k yes_no) * lists_in (drop (suc k) cs)
unfolding lists_in
lists_from [] k h = absurd (omega arith)
lists_from (c ∷ cs) zero h = refl
lists_from (c ∷ cs) (suc k) h = lists_from cs k (omega arith)

-- one column more behind
pub lists_upto : (cs : List Column) (k : ℕ) → k < length cs
    → lists_in (take (suc k) cs) ≡ lists_in (take k cs) * values_of (get_or cs k yes_no)
unfolding lists_in
lists_upto [] k h = absurd (omega arith)
lists_upto (c ∷ cs) zero h = omega arith
lists_upto (c ∷ cs) (suc k) h = omega (arith, ap (λ (t : ℕ). values_of c * t) (lists_upto cs k (omega arith)))

lists_split : (cs : List Column) (k : ℕ) → lists_in cs ≡ lists_in (take k cs) * lists_in (drop k cs)
unfolding lists_in
lists_split cs zero = omega arith
lists_split [] (suc k) = omega arith
lists_split (c ∷ cs) (suc k) = omega (arith, ap (λ (t : ℕ). values_of c * t) (lists_split cs k))

pub from_pos : (cs : List Column) (k : ℕ) → All InLimits cs → 0 < lists_in (drop k cs)
from_pos cs k h = lists_pos (drop k cs) (all_drop InLimits k h)

-- the first columns have no more lists than all
pub lists_most : (cs : List Column) (k : ℕ) → All InLimits cs → lists_in (take k cs) ≤ lists_in cs
lists_most cs k h = rw (lists_split cs k) (le-mul_of_pos_right (lists_in (take k cs)) (from_pos cs k h))

-- ---- the count up to the limit
module _ (cs : List Column) where
  pub few_lists : lists_in cs ≤ most_lists → counted_up cs ≡ ok (lists_in cs)
  unfolding counted_up
  few_lists h = rw (le-leb (lists_in cs) most_lists h)

  pub many_lists : most_lists < lists_in cs → counted_up cs ≡ refused 17
  unfolding counted_up
  many_lists h = rw (lt-leb (lists_in cs) most_lists h)

  pub count_is : (lists : ℕ) → ok lists ≡ counted_up cs → (lists ≡ lists_in cs) × (lists_in cs ≤ most_lists)
  count_is lists e = go (dec_le (lists_in cs) most_lists)
    where
      go : Dec (lists_in cs ≤ most_lists) → (lists ≡ lists_in cs) × (lists_in cs ≤ most_lists)
      go (yes k) = let q = e ∙ few_lists k in (cc, k)
      go (no k) = let q = e ∙ many_lists (omega arith) in absurd (cc)

  pub count_large : (n : ℕ) → refused n ≡ counted_up cs → (n ≡ 17) × (most_lists < lists_in cs)
  count_large n e = go (dec_le (lists_in cs) most_lists)
    where
      go : Dec (lists_in cs ≤ most_lists) → (n ≡ 17) × (most_lists < lists_in cs)
      go (yes k) = let q = e ∙ few_lists k in absurd (cc)
      go (no k) = let h : most_lists < lists_in cs = omega arith in let q = e ∙ many_lists h in (cc, h)
