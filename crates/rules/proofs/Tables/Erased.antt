-- A decided return leaves its id and, where it is entered, its part of the totals, and nothing else: a table beside a ledger has the
-- count and the totals of the entered returns, and holds zeros in the room for further ids, in each free record
-- and in the numbers of its place. By the pieces of its bytes, and by what is known of each record. Assumes nothing.
use mathlib.Core.Path.{◌≡◌, sym, ap, ap₂, ◌∙◌}
use mathlib.Core.List.{map}
use Prim.Native.Nat.{ℕ, ◌+◌, ◌-◌, ◌*◌, ◌<◌}
use native.Mathlib.Omega.{arith}
use lib.ListN.{length, take, replicate, length-map}
use Rattle.algebra.specs.Lists.{Rearranged}
use Rattle.words.specs.Bytes.{part}
use Rattle.rules.specs.Settings.{Setting, Facts}
use Rattle.rules.specs.Server.{Opened, ServerState, most_waiting}
use Rattle.rules.specs.Table.{Lent, ids_place, decided_in, entered_in, totals_in, unused_in, table_state}
use Rattle.rules.specs.Ledger.{Ledger, waiting, is_entered, notes_with, ledger_totals, ledger_wait}
use Rattle.rules.specs.Runs.{run_table}
use Rattle.rules.specs.Pools.{Pool, columns, opened_at, table_at, ledger_at, entered_at}
use Rattle.rules.specs.WholeRun.{waits_after, Erased}
use Rattle.rules.proofs.Tables.Parts.{assemble, placed, decided_are, part_ids}
use Rattle.rules.proofs.Tables.Invariant.{Beside, beside_known}
use Rattle.rules.proofs.Tables.Opens.{zeros_part, table_after_lem}

module _ (σ : Setting) (o : Opened) (T : Lent) (l : Ledger) (b : Beside σ o T l) where
  beside_unused : unused_in σ T.bytes ≡ replicate (4 * (o.returns - decided_in σ T.bytes)) 0
  beside_unused =
      let g = b.parts in
      let cs = o.columns in
      let U = assemble σ g in
      let n = 4 * (g.returns - g.decided) in
      let whole : 4 * g.decided + n ≡ length g.ids = omega (arith, b.sized.ids_long, b.sized.decided_few) in
      ap (unused_in σ) b.is
      ∙ placed σ cs g b.sized (λ s c N. part (ids_place σ s c N + 4 * decided_in σ U) (4 * (N - decided_in σ U)) U)
      ∙ ap (λ (d : ℕ). part (ids_place σ (length g.sheet) cs g.returns + 4 * d) (4 * (g.returns - d)) U)
      (decided_are σ cs g b.sized)
      ∙ part_ids σ cs g b.sized (4 * g.decided) n (omega arith)
      ∙ ap (take n) b.tells.unused_are
      ∙ zeros_part (4 * g.decided) n (length g.ids) (omega arith)
      ∙ ap₂ (λ (N d : ℕ). replicate (4 * (N - d)) 0) b.opened_as_lem.returns_are
      (sym (ap (decided_in σ) b.is ∙ decided_are σ cs g b.sized))

  beside_erased : (j : ℕ) → j < most_waiting → Erased o.columns T j
  beside_erased j h = (b.listed.fine j (omega (arith, b.listed.eight))).erased

-- 11. THE ROOM FOR FURTHER IDS IS 0, AND SO ARE A FREE RECORD AND THE NUMBERS OF ITS PLACE
module _ (σ : Setting) (facts : Facts σ) (𝓟 : Pool σ) (i : ℕ) (h : i < 𝓟.servers) where
  abbrev T : Lent
  T = run_table σ (table_at σ 𝓟 i) (𝓟.calls i)

  pub unused_zero : unused_in σ T.bytes ≡ replicate (4 * (𝓟.returns - decided_in σ T.bytes)) 0
  unused_zero = beside_unused σ (opened_at σ 𝓟 i) T _ (table_after_lem σ facts 𝓟 i h)

  pub records_hold : Rearranged (waits_after σ 𝓟 i) (map (ledger_wait σ (opened_at σ 𝓟 i)) (waiting (ledger_at σ 𝓟 i).progress))
  records_hold = (table_after_lem σ facts 𝓟 i h).listed.same

  -- the count and the totals are those of the entered returns
  pub counted : entered_in σ T.bytes ≡ length (entered_at σ 𝓟 i)
  unfolding table_state
  counted =
      ap (λ (k : ServerState). k.entered) (beside_known σ (opened_at σ 𝓟 i) T _ (table_after_lem σ facts 𝓟 i h))
      ∙ sym (length-map (notes_with is_entered (ledger_at σ 𝓟 i).decided) (λ n. n.id))

  pub summed_up_lem : totals_in σ T.bytes ≡ ledger_totals σ (opened_at σ 𝓟 i) (notes_with is_entered (ledger_at σ 𝓟 i).decided)
  unfolding table_state
  summed_up_lem = ap (λ (k : ServerState). k.totals) (beside_known σ (opened_at σ 𝓟 i) T _ (table_after_lem σ facts 𝓟 i h))

  pub erased_zero : (j : ℕ) → j < most_waiting → Erased (columns σ 𝓟) T j
  erased_zero j k = beside_erased σ (opened_at σ 𝓟 i) T _ (table_after_lem σ facts 𝓟 i h) j k
