-- Fields 2, 3 and 4 of demand 3: when all servers have closed, the entered ids are the same at each, and joining the
-- closing messages is refused 14 at most and gives their number and the sums of the added-up published entries. Sums over
-- servers and over ids may be taken in either order. Assumes the conditions of whole runs.
use mathlib.Core.Path.{◌≡◌, sym, ap, ◌∙◌}
use mathlib.Core.Bool.{true}
use mathlib.Core.List.{List, map}
use Prim.Native.Nat.{ℕ, ◌+◌, ◌*◌, ◌%◌, ◌≤◌, ◌<◌}
use native.Mathlib.Nat.{mod-lt, mul-zero}
use native.Mathlib.Omega.{arith}
use borrow.Author.Tests.{eq-eqb, le-leb}
use lib.Dec.{leb}
use lib.ListN.{length, get_or, take, drop, length-map}
use Rattle.algebra.specs.Lists.{All, sum_over, count_from, tabulate}
use Rattle.algebra.specs.Modulo.{modulo}
use Rattle.algebra.specs.Sums.{sum}
use Rattle.algebra.proofs.Members.{map_all, in_all}
use Rattle.algebra.proofs.Rearrangement.{rearranged_length, rearranged_sum, sum_cong, sum_rem, sum_swap}
use Rattle.algebra.proofs.Sums.{sum_ext}
use Rattle.algebra.proofs.Tables.{tabulate_cong}
use Rattle.words.specs.Bytes.{value_of, part, all_below}
use Rattle.words.proofs.Below.{below_of_all}
use Rattle.words.proofs.Splice.{part_of_take}
use Rattle.records.specs.Outcome.{or_else}
use Rattle.rules.specs.Settings.{Setting, Facts}
use Rattle.rules.specs.Columns.{Column, check, published_in, published_from}
use Rattle.rules.specs.Judging.{added_up}
use Rattle.rules.specs.Joining.{message_length, totals_at, accepted_count, sums_in, totals_sound, joined_fault, join_refusal}
use Rattle.rules.specs.Joining.{join_totals}
use Rattle.rules.specs.Ledger.{Note, is_entered, notes_with, ledger_totals, closing_message}
use Rattle.rules.specs.Pools.{Pool, columns, opened_at, ledger_at, entered_at, return_of, added_entry, Conditions, AllClosed}
use Rattle.rules.specs.WholeRun.{closings}
use Rattle.rules.proofs.Histories.MessageBytes.{length_one_by_one, part_one_by_one}
use Rattle.rules.proofs.Histories.Checks.{at_every}
use Rattle.rules.proofs.Histories.Opening.{positive}
use Rattle.rules.proofs.Histories.PoolOpened.{opened, limited, returns_limits}
use Rattle.rules.proofs.Runs.SameIds.{few_entered, own_sum, same_ids}
use Rattle.rules.proofs.Histories.ClosingBytes.{length_totals, totals_kind, totals_server, totals_count, totals_sums}
use Rattle.rules.proofs.Histories.ClosingBytes.{map_places, get_d_map, sum_modulo}

module _ (σ : Setting) (facts : Facts σ) (𝓟 : Pool σ) (𝓒 : Conditions σ 𝓟) (closed : AllClosed σ 𝓟) where
  abbrev S : ℕ
  S = 𝓟.servers

  abbrev cs : List Column
  cs = columns σ 𝓟

  abbrev p : ℕ
  p = σ.modulus

  -- the entered ids
  abbrev ids : List ℕ
  ids = entered_at σ 𝓟 0

  abbrev entered_notes : ℕ → List Note
  entered_notes i = notes_with is_entered (ledger_at σ 𝓟 i).decided

  count_at : (i : ℕ) → i < S → length (entered_notes i) ≡ length ids
  count_at i l =
      sym (length-map (entered_notes i) (λ n. n.id)) ∙ rearranged_length (same_ids σ 𝓟 closed facts 𝓒 i 0 l 𝓟.some_server)

  pub few_ids : length ids ≤ 𝓟.returns
  few_ids = omega (arith, count_at 0 𝓟.some_server, few_entered σ 𝓟 closed 0 𝓟.some_server)

  -- ---- the closing messages
  abbrev closing : ℕ → List ℕ
  closing i = closing_message σ (opened_at σ 𝓟 i) (ledger_at σ 𝓟 i)

  abbrev totals_of : ℕ → List ℕ
  totals_of i = ledger_totals σ (opened_at σ 𝓟 i) (entered_notes i)

  many_totals : (i : ℕ) → length (totals_of i) ≡ published_in cs
  unfolding ledger_totals
  many_totals i = length-map (published_from 0 cs) _ ∙ (limited σ 𝓟).published_count

  small_totals : (i : ℕ) → All (λ x. x < p) (totals_of i)
  unfolding ledger_totals
  small_totals i = map_all _ (in_all (published_from 0 cs) (λ e h. mod-lt _ (positive σ facts)))

  closing_length : (i : ℕ) → length (closing i) ≡ message_length σ cs
  unfolding closing_message
  closing_length i =
      length_totals σ (opened_at σ 𝓟 i) (length (entered_notes i)) (totals_of i)
      ∙ ap (λ (k : ℕ). 6 + σ.width * k) (many_totals i)

  closing_kind : (i : ℕ) → get_or (closing i) 0 0 ≡ σ.totals_byte
  unfolding closing_message
  closing_kind i = totals_kind σ (opened_at σ 𝓟 i) (length (entered_notes i)) (totals_of i)

  closing_server : (i : ℕ) → get_or (closing i) 1 0 ≡ i
  unfolding closing_message
  closing_server i = totals_server σ (opened_at σ 𝓟 i) (length (entered_notes i)) (totals_of i)

  closing_count : (i : ℕ) → i < S → accepted_count (closing i) ≡ length ids
  unfolding closing_message
  closing_count i l =
      let few : length (entered_notes i) < 4294967296 = omega (arith, few_entered σ 𝓟 closed i l, (returns_limits σ 𝓟).1) in
      totals_count σ (opened_at σ 𝓟 i) (length (entered_notes i)) (totals_of i) few ∙ count_at i l

  closing_sums : (i : ℕ) → sums_in σ (closing i) ≡ totals_of i
  unfolding closing_message
  closing_sums i = totals_sums σ (opened_at σ 𝓟 i) (length (entered_notes i)) (totals_of i) facts (small_totals i)

  -- one after another
  closings_length : length (closings σ 𝓟) ≡ message_length σ cs * S
  closings_length = length_one_by_one closing (message_length σ cs) S (λ j h. closing_length j)

  place : (i : ℕ) → i < S → totals_at σ cs (closings σ 𝓟) i ≡ closing i
  place = part_one_by_one closing (message_length σ cs) S (λ j h. closing_length j)

  -- the count is that of the first
  pub count_is : accepted_count (closings σ 𝓟) ≡ length ids
  count_is =
      let m = message_length σ cs in
      let front : part 2 4 (take m (closings σ 𝓟)) ≡ part 2 4 (closings σ 𝓟) = part_of_take 2 4 m (closings σ 𝓟) (omega arith) in
      let first : take m (closings σ 𝓟) ≡ totals_at σ cs (closings σ 𝓟) 0 =
      ap (λ (k : ℕ). take m (drop k (closings σ 𝓟))) (sym (mul-zero m)) in
      ap value_of (sym front)
      ∙ ap accepted_count (first ∙ place 0 𝓟.some_server)
      ∙ closing_count 0 𝓟.some_server

  -- ---- joining
  sound : (i : ℕ) → i < S → totals_sound σ (accepted_count (closings σ 𝓟)) i (totals_at σ cs (closings σ 𝓟) i) ≡ true
  unfolding totals_sound
  sound i l =
      let m = totals_at σ cs (closings σ 𝓟) i in
      let k : get_or m 0 0 ≡ σ.totals_byte = ap (λ (v : List ℕ). get_or v 0 0) (place i l) ∙ closing_kind i in
      let s : get_or m 1 0 ≡ i = ap (λ (v : List ℕ). get_or v 1 0) (place i l) ∙ closing_server i in
      let c : accepted_count m ≡ accepted_count (closings σ 𝓟) =
      ap accepted_count (place i l) ∙ closing_count i l ∙ sym count_is in
      let b : all_below p (sums_in σ m) ≡ true =
      ap (λ (v : List ℕ). all_below p (sums_in σ v)) (place i l)
      ∙ ap (all_below p) (closing_sums i)
      ∙ below_of_all p (totals_of i) (small_totals i) in
      rw (eq-eqb _ _ k, eq-eqb _ _ s, eq-eqb _ _ c, b)

  joined_pass : joined_fault σ S cs 𝓟.returns (closings σ 𝓟) ≡ 0
  unfolding joined_fault
  joined_pass =
      let few : accepted_count (closings σ 𝓟) ≤ 𝓟.returns = rw count_is few_ids in
      rw (
        eq-eqb _ _ closings_length,
        at_every (λ i. totals_sound σ (accepted_count (closings σ 𝓟)) i (totals_at σ cs (closings σ 𝓟) i)) S sound,
        le-leb _ _ few,
      )

  pub joins : (room : ℕ) → join_refusal σ S 𝓟.sheet 𝓟.returns (closings σ 𝓟) room
      ≡ check (leb (σ.width * published_in cs) room) 14
  unfolding join_refusal or_else
  joins room =
      let o = opened σ 𝓟 in
      rw (o.servers_fit_lem, o.no_fault_lem, o.returns_fit_lem, o.totals_fit_lem, joined_pass)

  -- ---- totals
  abbrev share_of : ℕ → ℕ → ℕ → ℕ
  share_of e i id = return_of σ 𝓟 id i e

  -- the total of entry e at server i
  total_at_lem : (i : ℕ) → i < S → (k : ℕ) → k < length (published_from 0 cs)
      → get_or (sums_in σ (totals_at σ cs (closings σ 𝓟) i)) k 0 ≡ sum_over (share_of (get_or (published_from 0 cs) k 0) i) ids % p
  unfolding ledger_totals
  total_at_lem i l k h =
      ap (λ (v : List ℕ). get_or (sums_in σ v) k 0) (place i l)
      ∙ ap (λ (v : List ℕ). get_or v k 0) (closing_sums i)
      ∙ get_d_map (λ e. sum_over (λ n. get_or n.elements e 0) (entered_notes i) % p) (published_from 0 cs) k h
      ∙ ap (λ (v : ℕ). v % p)
      (own_sum σ 𝓟 closed i l (get_or (published_from 0 cs) k 0)
      ∙ rearranged_sum (share_of (get_or (published_from 0 cs) k 0) i) (same_ids σ 𝓟 closed facts 𝓒 i 0 l 𝓟.some_server))

  added_is : (id e : ℕ) → added_entry σ 𝓟 id e ≡ sum_over (λ i. share_of e i id) (count_from 0 S) % p
  unfolding added_up
  added_is id e = sum_modulo p S (λ i. share_of e i id)

  one_total : (k : ℕ) → k < length (published_from 0 cs)
      → sum (modulo p) S (λ i. get_or (sums_in σ (totals_at σ cs (closings σ 𝓟) i)) k 0)
      ≡ sum_over (λ id. added_entry σ 𝓟 id (get_or (published_from 0 cs) k 0)) ids % p
  one_total k h =
      let e = get_or (published_from 0 cs) k 0 in
      let all = count_from 0 S in
      sum_ext (modulo p) S _ (λ i. sum_over (share_of e i) ids % p) (λ i l. total_at_lem i l k h)
      ∙ sum_modulo p S (λ i. sum_over (share_of e i) ids % p)
      ∙ sum_rem p (λ i. sum_over (share_of e i) ids) all
      ∙ ap (λ (v : ℕ). v % p) (sum_swap (share_of e) all ids)
      ∙ sym (sum_rem p (λ id. sum_over (λ i. share_of e i id) all) ids)
      ∙ ap (λ (v : ℕ). v % p) (sum_cong (λ id. sum_over (λ i. share_of e i id) all % p) _ ids (λ id q. sym (added_is id e)))

  pub totals : join_totals σ S 𝓟.sheet (closings σ 𝓟)
      ≡ map (λ e. sum_over (λ id. added_entry σ 𝓟 id e) ids % p) (published_from 0 cs)
  unfolding join_totals
  totals =
      let f : ℕ → ℕ = λ k. sum (modulo p) S (λ i. get_or (sums_in σ (totals_at σ cs (closings σ 𝓟) i)) k 0) in
      ap (tabulate f) (sym (limited σ 𝓟).published_count)
      ∙ tabulate_cong f _ (length (published_from 0 cs)) one_total
      ∙ sym (map_places (λ e. sum_over (λ id. added_entry σ 𝓟 id e) ids % p) (published_from 0 cs))
