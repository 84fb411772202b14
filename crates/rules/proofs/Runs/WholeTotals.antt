-- Where every entered return keeps its form the totals are the sums themselves: the added-up entries are then encodings
-- of legal values, and N times a published one stays below p. With this the fields 2, 3 and 4 of demand 3 stand together.
-- Assumes the conditions of whole runs.
use mathlib.Core.Path.{◌≡◌, ◌∙◌}
use mathlib.Core.List.{map}
use Prim.Native.Nat.{ℕ, ◌*◌, ◌%◌, ◌≤◌, ◌<◌}
use native.Mathlib.Nat.{mod-le, mod-eq_of_lt, mul-le-mul_right}
use native.Mathlib.Omega.{arith}
use lib.ListN.{get_or}
use Rattle.algebra.specs.Lists.{In, sum_over}
use Rattle.algebra.specs.Modulo.{modulo}
use Rattle.algebra.proofs.Members.{all_in, map_same}
use Rattle.rules.specs.Settings.{Setting, Facts}
use Rattle.rules.specs.Columns.{published_from}
use Rattle.rules.specs.Values.{Encodes, encoding}
use Rattle.rules.specs.Judging.{added_up}
use Rattle.rules.specs.Joining.{join_count, join_totals}
use Rattle.rules.specs.Ledger.{wrote, closing_message}
use Rattle.rules.specs.Pools.{Pool, columns, opened_at, ledger_at, answers_at, entered_at, added_entry, KeepsForm, Conditions}
use Rattle.rules.specs.Pools.{AllClosed}
use Rattle.rules.specs.WholeRun.{closings, Closed}
use Rattle.rules.proofs.Circuits.Legal.{sheet_tests_say_legal}
use Rattle.rules.proofs.Circuits.Published.{published_fits}
use Rattle.rules.proofs.Histories.Opening.{positive}
use Rattle.rules.proofs.Histories.OwnMessages.{sum_below}
use Rattle.rules.proofs.Histories.Shuffled.{rearranged_in}
use Rattle.rules.proofs.Histories.PoolOpened.{opened, is_read, limited, returns_limits}
use Rattle.rules.proofs.Runs.Enough.{closed_writes, closed_enough}
use Rattle.rules.proofs.Runs.SameIds.{entered_apart, same_ids}
use Rattle.rules.proofs.Histories.ClosingBytes.{small_sum}
use Rattle.rules.proofs.Runs.JoinedTotals.{few_ids, count_is, joins, totals}

module _ (σ : Setting) (facts : Facts σ) (𝓟 : Pool σ) (𝓒 : Conditions σ 𝓟) (closed : AllClosed σ 𝓟) where
  entry_below : (id e : ℕ) → added_entry σ 𝓟 id e < σ.modulus
  unfolding added_up
  entry_below id e = sum_below σ facts 𝓟.servers _

  entry_fits : (id : ℕ) → KeepsForm σ 𝓟 id → (e : ℕ) → In e (published_from 0 (columns σ 𝓟))
      → added_entry σ 𝓟 id e * 𝓟.returns < σ.modulus
  entry_fits id valid e h =
      let cs = columns σ 𝓟 in
      let code : Encodes (modulo σ.modulus) cs (added_entry σ 𝓟 id) =
      (sheet_tests_say_legal σ facts cs (added_entry σ 𝓟 id) (entry_below id) 𝓟.sheet (is_read σ 𝓟)).0 valid in
      let v : ℕ = get_or (encoding cs code.values) e 0 in
      let is : added_entry σ 𝓟 id e ≡ v % σ.modulus =
      code.entries_are e (all_in e (published_from 0 cs) (limited σ 𝓟).published_below h) in
      let less : v % σ.modulus * 𝓟.returns ≤ v * 𝓟.returns = mul-le-mul_right 𝓟.returns (mod-le v σ.modulus) in
      let fits : v * 𝓟.returns < σ.modulus =
      published_fits σ 𝓟.returns cs code.values code.legal (opened σ 𝓟).totals_fit_lem e h in
      rw is (omega arith)

  whole : ((id : ℕ) → In id (entered_at σ 𝓟 0) → KeepsForm σ 𝓟 id)
      → join_totals σ 𝓟.servers 𝓟.sheet (closings σ 𝓟)
      ≡ map (λ e. sum_over (λ id. added_entry σ 𝓟 id e) (entered_at σ 𝓟 0)) (published_from 0 (columns σ 𝓟))
  whole keeps =
      totals σ facts 𝓟 𝓒 closed
      ∙ map_same _ _ (published_from 0 (columns σ 𝓟)) (λ e h. mod-eq_of_lt
      (small_sum σ.modulus 𝓟.returns (λ id. added_entry σ 𝓟 id e) (entered_at σ 𝓟 0)
      (positive σ facts) (returns_limits σ 𝓟).0 (few_ids σ facts 𝓟 𝓒 closed) (λ id q. entry_fits id (keeps id q) e h)))

  wrote_closing : (i : ℕ) → i < 𝓟.servers
      → In (wrote (closing_message σ (opened_at σ 𝓟 i) (ledger_at σ 𝓟 i))) (answers_at σ 𝓟 i)
  wrote_closing i l = (closed_writes σ 𝓟 i l (closed i l)).0

  -- 2, 3, 4
  pub closed_together : Closed σ 𝓟
  unfolding join_count
  closed_together = record {
    ids = entered_at σ 𝓟 0;
    distinct = entered_apart σ 𝓟 0 𝓟.some_server;
    same_ids = λ i l. same_ids σ 𝓟 closed facts 𝓒 i 0 l 𝓟.some_server;
    wrote_closing = wrote_closing;
    joins = joins σ facts 𝓟 𝓒 closed;
    count = count_is σ facts 𝓟 𝓒 closed;
    enough = rw (count_is σ facts 𝓟 𝓒 closed) (closed_enough σ 𝓟 0 𝓟.some_server (closed 0 𝓟.some_server));
    totals = totals σ facts 𝓟 𝓒 closed;
    entered_in_lem = λ i l id h. rearranged_in id (same_ids σ 𝓟 closed facts 𝓒 i 0 l 𝓟.some_server) h;
    dropped_out = λ i l id h. 𝓒.same_drops i 0 l 𝓟.some_server id h;
    whole = whole;
  }
