-- The theorems on judging and making for a sheet that is read: reading keeps every limit that they ask for. Assumes nothing.
use mathlib.Core.Path.{◌≡◌}
use mathlib.Core.Bool.{true}
use mathlib.Core.List.{List}
use Prim.Native.Nat.{ℕ, ◌≤◌, ◌<◌}
use native.Mathlib.Omega.{arith}
use lib.ListN.{get_or}
use Rattle.algebra.specs.Lists.{All}
use Rattle.algebra.specs.Modulo.{modulo}
use Rattle.records.specs.Outcome.{ok}
use Rattle.rules.specs.Settings.{Setting, Facts}
use Rattle.rules.specs.Columns.{Column, entries_in, read_sheet}
use Rattle.rules.specs.Circuit.{gates_in, tests_in}
use Rattle.rules.specs.Values.{legal_values, encoding}
use Rattle.rules.specs.Judging.{added_up}
use Rattle.rules.specs.Making.{made_share}
use Rattle.rules.proofs.Circuits.Limits.{Limits, limits}
use Rattle.rules.proofs.Circuits.Encoding.{entry_below_modulus}
use Rattle.rules.proofs.Returns.FewPairs.{FewPairs, few_pairs}
use Rattle.rules.proofs.Returns.Shares.{entries_add_up}
use Rattle.rules.proofs.Returns.HonestReturns.{HonestLetIn, honest_let_in}

module _ (σ : Setting) (facts : Facts σ) (sheet : List ℕ) (cs : List Column) (read : read_sheet sheet ≡ ok cs) where
  kept : Limits sheet cs
  kept = limits sheet cs read

  pub gates : gates_in cs ≤ 256
  gates = omega (arith, kept.gates_most, kept.entries_most)

  pub sheet_few_pairs : FewPairs σ cs
  sheet_few_pairs = let tests : tests_in cs ≤ 512 = omega (arith, kept.tests_most) in few_pairs σ facts cs gates tests

  pub sheet_honest_let_in : HonestLetIn σ cs
  sheet_honest_let_in = honest_let_in σ facts cs kept.in_limits gates

  -- the entries of a return made of legal values add up to their encoding
  pub sheet_entries_add_up : (servers : ℕ) → 0 < servers → (vs zs : List ℕ) → legal_values cs vs ≡ true
      → All (λ z. z < σ.modulus) zs → (e : ℕ) → e < entries_in cs
      → added_up (modulo σ.modulus) σ cs servers (λ i e. get_or (made_share σ cs servers vs zs i) e 0) e
      ≡ get_or (encoding cs vs) e 0
  sheet_entries_add_up servers some vs zs legal random =
      entries_add_up σ facts cs servers vs zs some random (entry_below_modulus σ facts cs vs kept.in_limits legal)
