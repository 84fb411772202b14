-- Field 10 of demand 3: "Decided and waiting together never exceed N", since these are the shares noted; and at most eight
-- wait, since a share is taken only where fewer do. Assumes nothing.
use mathlib.Core.Path.{◌≡◌, ap₂, ◌∙◌}
use mathlib.Core.List.{map}
use Prim.Native.Nat.{ℕ, ◌+◌, ◌≤◌, ◌<◌}
use native.Mathlib.Omega.{arith}
use lib.ListN.{length, length-map, length-append}
use Rattle.algebra.specs.Lists.{Distinct}
use Rattle.rules.specs.Settings.{Setting}
use Rattle.rules.specs.Server.{most_waiting}
use Rattle.rules.specs.Ledger.{note_in, waiting, Decided, Ledger, ids_of, notes_of}
use Rattle.rules.specs.Pools.{Pool, opened_at, ledger_at, notes_in, notes_at}
use Rattle.rules.proofs.Histories.NotesGrow.{eight_on}
use Rattle.rules.proofs.Runs.Agreement.{history_at, sound_at_lem}

many_notes : (l : Ledger) → length (notes_in l) ≡ length l.decided + length (waiting l.progress)
unfolding notes_in
many_notes l =
    length-append (notes_of l.decided) (map note_in (waiting l.progress))
    ∙ ap₂ (λ (x y : ℕ). x + y) (length-map l.decided (λ (k : Decided). k.note)) (length-map (waiting l.progress) note_in)

module _ (σ : Setting) (𝓟 : Pool σ) (i : ℕ) (l : i < 𝓟.servers) where
  pub within_returns : length (ledger_at σ 𝓟 i).decided + length (waiting (ledger_at σ 𝓟 i).progress) ≤ 𝓟.returns
  within_returns = omega (arith, many_notes (ledger_at σ 𝓟 i), (sound_at_lem σ 𝓟 i l).few)

  pub once : Distinct (ids_of (notes_at σ 𝓟 i))
  once = (sound_at_lem σ 𝓟 i l).apart

  pub at_most_eight : length (waiting (ledger_at σ 𝓟 i).progress) ≤ most_waiting
  at_most_eight = eight_on σ (opened_at σ 𝓟 i) (history_at σ 𝓟 i l) (omega arith)
