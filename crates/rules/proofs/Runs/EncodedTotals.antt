-- Where every entered return is delivered whole, its added-up entries are the encoding of its values, so it keeps its form
-- and the joined totals are sums of encodings, as whole numbers. Column by column these are numbers of returns, or sums of
-- values. Assumes the conditions of whole runs.
use mathlib.Core.Path.{◌≡◌, refl, sym, ap, ◌∙◌}
use mathlib.Core.Bool.{Bool, true, false, cond}
use mathlib.Core.List.{List, [], ◌∷◌, ◌++◌, map}
use Prim.Native.Nat.{ℕ, zero, suc, ◌+◌, ◌<◌}
use native.Mathlib.Nat.{mod-eq_of_lt, zero-add, add-zero}
use native.Mathlib.Omega.{arith}
use lib.Dec.{eqb}
use lib.ListN.{length, get_or}
use Rattle.algebra.specs.Lists.{In, Rearranged, sum_over}
use Rattle.algebra.specs.Modulo.{modulo}
use Rattle.algebra.proofs.Members.{all_in, map_same}
use Rattle.algebra.proofs.Sums.{sum_ext}
use Rattle.algebra.proofs.Rearrangement.{rearranged_sym, rearranged_sum, sum_cong}
use Rattle.words.proofs.Below.{all_of_below}
use Rattle.rules.specs.Settings.{Setting, Facts}
use Rattle.rules.specs.Columns.{Column, yes_no, choice, number, point, published_of, values_of, entries_in, published_in}
use Rattle.rules.specs.Columns.{published_from}
use Rattle.rules.specs.Values.{encoded, legal_values, encoding}
use Rattle.rules.specs.Judging.{added_up}
use Rattle.rules.specs.Pools.{Pool, columns, entered_at, added_entry, KeepsForm, DeliveredWhole, Conditions, AllClosed}
use Rattle.rules.specs.WholeRun.{Closed}
use Rattle.rules.specs.Made.{how_many, MadeOf, joined_totals, EncodedTotals}
use Rattle.rules.proofs.Circuits.Legal.{sheet_tests_say_legal}
use Rattle.rules.proofs.Circuits.Encoding.{entry_below_modulus}
use Rattle.rules.proofs.Circuits.Limits.{published_few_of}
use Rattle.rules.proofs.Circuits.ColumnPlaces.{value_behind, entry_behind, published_behind, published_within}
use Rattle.rules.proofs.Histories.OwnMessages.{sum_below}
use Rattle.rules.proofs.Histories.Shuffled.{rearranged_in}
use Rattle.rules.proofs.Returns.OnSheets.{sheet_entries_add_up}
use Rattle.rules.proofs.Histories.PoolOpened.{is_read, limited}
use Rattle.rules.proofs.Histories.ClosingBytes.{get_d_map}
use Rattle.rules.proofs.Runs.WholeTotals.{closed_together}

-- ones and zeros added up are a number of members
ones_count : (t : ℕ → Bool) (s : List ℕ) → sum_over (λ x. cond (t x) 1 0) s ≡ how_many t s
unfolding sum_over how_many
ones_count t [] = refl
ones_count t (x ∷ s) = go (t x) (ones_count t s)
  where
    go : (b : Bool) → sum_over (λ x. cond (t x) 1 0) s ≡ how_many t s
        → cond b 1 0 + sum_over (λ x. cond (t x) 1 0) s ≡ cond b (suc (how_many t s)) (how_many t s)
    go true e = omega arith
    go false e = omega arith

-- a yes is 1
yes_is_one : (v : ℕ) → v < 2 → v ≡ cond (eqb v 1) 1 0
yes_is_one zero l = refl
yes_is_one (suc zero) l = refl
yes_is_one (suc (suc v)) l = absurd (omega arith)

-- ---- a return that is delivered whole
module _ (σ : Setting) (facts : Facts σ) (𝓟 : Pool σ) (id : ℕ) (w : DeliveredWhole σ 𝓟 id) where
  abbrev code : ℕ → ℕ
  code e = get_or (encoding (columns σ 𝓟) w.values) e 0

  pub entry_is_code : (e : ℕ) → e < entries_in (columns σ 𝓟) → added_entry σ 𝓟 id e ≡ code e
  unfolding added_up
  entry_is_code e l =
      sum_ext (modulo σ.modulus) 𝓟.servers _ _ (λ i b. ap (λ (v : List ℕ). get_or v e 0) (w.noted i b))
      ∙ sheet_entries_add_up σ facts 𝓟.sheet (columns σ 𝓟) (is_read σ 𝓟) 𝓟.servers 𝓟.some_server
      w.values w.random w.legal (all_of_below σ.modulus w.random w.below) e l

  entry_below : (e : ℕ) → added_entry σ 𝓟 id e < σ.modulus
  unfolding added_up
  entry_below e = sum_below σ facts 𝓟.servers _

  -- it keeps its form
  pub keeps_form : KeepsForm σ 𝓟 id
  keeps_form =
      let below = entry_below_modulus σ facts (columns σ 𝓟) w.values (limited σ 𝓟).in_limits w.legal in
      (sheet_tests_say_legal σ facts (columns σ 𝓟) (added_entry σ 𝓟 id) entry_below 𝓟.sheet (is_read σ 𝓟)).1
      (record {
        values = w.values;
        legal = w.legal;
        entries_are = λ i l. entry_is_code i l ∙ sym (mod-eq_of_lt (below i));
      })

-- ---- the totals, over the ids that server i entered
module _ (σ : Setting) (facts : Facts σ) (𝓟 : Pool σ) (closed : Closed σ 𝓟) (i : ℕ) (l : i < 𝓟.servers) (values : ℕ → List ℕ)
    (made : (id : ℕ) → In id (entered_at σ 𝓟 i) → MadeOf σ 𝓟 id (values id)) where
  abbrev cs : List Column
  cs = columns σ 𝓟

  abbrev ids : List ℕ
  ids = entered_at σ 𝓟 i

  -- the sum of entry e of the encodings
  abbrev coded : ℕ → ℕ
  coded e = sum_over (λ id. get_or (encoding cs (values id)) e 0) ids

  legal : (id : ℕ) → In id ids → legal_values cs (values id) ≡ true
  legal id h = ap (legal_values cs) (sym (made id h).1) ∙ (made id h).0.legal

  entry_coded : (id : ℕ) → In id ids → (e : ℕ) → In e (published_from 0 cs)
      → added_entry σ 𝓟 id e ≡ get_or (encoding cs (values id)) e 0
  entry_coded id h e k =
      entry_is_code σ facts 𝓟 id (made id h).0 e (all_in e (published_from 0 cs) (limited σ 𝓟).published_below k)
      ∙ ap (λ (v : List ℕ). get_or (encoding cs v) e 0) (made id h).1

  whole_totals : joined_totals σ 𝓟 ≡ map coded (published_from 0 cs)
  whole_totals =
      let same : Rearranged closed.ids ids = rearranged_sym (closed.same_ids i l) in
      closed.whole (λ id h. keeps_form σ facts 𝓟 id (made id (rearranged_in id same h)).0)
      ∙ map_same _ _ (published_from 0 cs) (λ e k.
      rearranged_sum (λ id. added_entry σ 𝓟 id e) same
      ∙ sum_cong _ _ ids (λ id h. entry_coded id h e k))

  -- the total of published entry k of a column
  module _ (before after : List Column) (c : Column) (k : ℕ) (is : cs ≡ before ++ (c ∷ after)) (low : k < published_of c) where
    abbrev chosen : ℕ → ℕ
    chosen id = get_or (values id) (length before) 0

    legal_here : (id : ℕ) → In id ids → legal_values (before ++ (c ∷ after)) (values id) ≡ true
    legal_here id h = ap (λ (v : List Column). legal_values v (values id)) (sym is) ∙ legal id h

    value_below : (id : ℕ) → In id ids → chosen id < values_of c
    value_below id h = value_behind c after before (values id) (legal_here id h)

    place_within : published_in before + k < length (published_from 0 cs)
    place_within =
        let most : published_in before + k < published_in (before ++ (c ∷ after)) = published_within c after k low before in
        let same : published_in (before ++ (c ∷ after)) ≡ published_in cs = ap published_in (sym is) in
        omega (arith, (limited σ 𝓟).published_count)

    place_is : get_or (published_from 0 cs) (published_in before + k) 0 ≡ entries_in before + k
    place_is =
        ap (λ (v : List Column). get_or (published_from 0 v) (published_in before + k) 0) is
        ∙ published_behind c after k low before 0
        ∙ zero-add (entries_in before + k)

    code_is : (id : ℕ) → In id ids → get_or (encoding cs (values id)) (entries_in before + k) 0 ≡ encoded c (chosen id) k
    code_is id h =
        ap (λ (v : List Column). get_or (encoding v (values id)) (entries_in before + k) 0) is
        ∙ entry_behind c after k (omega (arith, published_few_of c)) before (values id) (legal_here id h)

    column_total : get_or (joined_totals σ 𝓟) (published_in before + k) 0 ≡ sum_over (λ id. encoded c (chosen id) k) ids
    column_total =
        ap (λ (v : List ℕ). get_or v (published_in before + k) 0) whole_totals
        ∙ get_d_map coded (published_from 0 cs) (published_in before + k) place_within
        ∙ ap coded place_is
        ∙ sum_cong _ _ ids code_is

  each_total : EncodedTotals σ 𝓟 (entered_at σ 𝓟 i) values
  unfolding encoded published_of values_of
  each_total = record {
    totals = whole_totals;
    yes_total = λ before after is.
        ap (λ k. get_or (joined_totals σ 𝓟) k 0) (sym (add-zero (published_in before)))
        ∙ column_total before after yes_no 0 is (omega arith)
        ∙ sum_cong _ _ ids (λ id h. yes_is_one _ (value_below before after yes_no 0 is (omega arith) id h))
        ∙ ones_count _ ids;
    option_total = λ before after n k is low. column_total before after (choice n) k is low ∙ ones_count _ ids;
    number_total = λ before after n is.
        ap (λ k. get_or (joined_totals σ 𝓟) k 0) (sym (add-zero (published_in before)))
        ∙ column_total before after (number n) 0 is (omega arith);
    point_total = λ before after n k is low. column_total before after (point n) k is low;
  }

-- under the conditions, when all servers have closed
pub encoded_totals : (σ : Setting) → Facts σ → (𝓟 : Pool σ) → Conditions σ 𝓟 → AllClosed σ 𝓟 → (i : ℕ) → i < 𝓟.servers
    → (values : ℕ → List ℕ) → ((id : ℕ) → In id (entered_at σ 𝓟 i) → MadeOf σ 𝓟 id (values id))
    → EncodedTotals σ 𝓟 (entered_at σ 𝓟 i) values
encoded_totals σ facts 𝓟 𝓒 ended = each_total σ facts 𝓟 (closed_together σ facts 𝓟 𝓒 ended)
