-- The walks as walks of parts, and the left inputs at a server and on a list as inputs by a meaning on numbers: they name no
-- constant. By induction on the columns. Assumes nothing.
use mathlib.Core.Path.{◌≡◌, refl, ap, ap₂}
use mathlib.Core.List.{List, [], ◌∷◌, ◌++◌, map}
use Prim.Native.Nat.{ℕ, ◌+◌}
use native.Mathlib.Omega.{arith}
use Rattle.algebra.specs.Lists.{tabulate}
use Rattle.field.specs.Residues.{residues}
use Rattle.rules.specs.Settings.{document01}
use Rattle.rules.specs.Columns.{Column, yes_no, choice, number, top, point, entries_of}
use Rattle.rules.specs.Circuit.{bits_of, products_at, gates_of, tests_of, gates_in, tests_in}
use Rattle.rules.specs.Run.{Meaning, on_list, at_server}
use Rattle.rules.specs.Walk.{bits_at, column_lefts, column_tests, walk_lefts, walk_tests}
use Rattle.rules.specs.Products.{column_extras, walk_extras}
use Rattle.rules.proofs.Circuits.Walk.{column_lefts_lem, column_tests_lem}
use Rattle.rules.proofs.Returns.Products.{column_extras_lem}
use Rattle.columns.proofs.Sums.{gates, tests as test-count}
use Rattle.walk.specs.Walks.{plain}
use Rattle.walk.proofs.Walking.{walked, Parts}

-- ---- the parts of the walks
abbrev pub left_part : Meaning ℕ → ℕ → ℕ → Column → List ℕ
left_part μ e t c = column_lefts document01 μ e c

abbrev pub extra_part : ℕ → (ℕ → ℕ) → ℕ → ℕ → Column → List ℕ
extra_part k x e t c = column_extras residues k x e c

abbrev pub test_part : Meaning ℕ → ℕ → ℕ → Column → List ℕ
test_part μ e t c = column_tests document01 μ e t c

module _ (μ : Meaning ℕ) where
  pub lefts : Parts (left_part μ) gates_of gates_in
  lefts = record { total = gates; each = λ e t c. column_lefts_lem document01 μ c e }

  pub tests : Parts (test_part μ) tests_of tests_in
  tests = record { total = test-count; each = λ e t c. column_tests_lem document01 μ c e t }

  pub lefts_walked : (cs : List Column) (e t : ℕ) → walked (left_part μ) e t cs ≡ walk_lefts document01 μ e cs
  unfolding walked walk_lefts
  lefts_walked [] e t = refl
  lefts_walked (c ∷ cs) e t =
      ap (column_lefts document01 μ e c ++◌) (lefts_walked cs (e + entries_of c) (t + gates_of c))

  pub tests_walked : (cs : List Column) (e t : ℕ) → walked (test_part μ) e t cs ≡ walk_tests document01 μ e t cs
  unfolding walked walk_tests
  tests_walked [] e t = refl
  tests_walked (c ∷ cs) e t = ap (column_tests document01 μ e t c ++◌) (tests_walked cs (e + entries_of c) (t + gates_of c))

module _ (k : ℕ) (x : ℕ → ℕ) where
  pub extras : Parts (extra_part k x) gates_of gates_in
  extras = record { total = gates; each = λ e t c. column_extras_lem residues k x c e }

  pub extras_walked : (cs : List Column) (e t : ℕ) → walked (extra_part k x) e t cs ≡ walk_extras residues k x e cs
  unfolding walked walk_extras
  extras_walked [] e t = refl
  extras_walked (c ∷ cs) e t =
      ap (column_extras residues k x e c ++◌) (extras_walked cs (e + entries_of c) (t + gates_of c))

-- ---- left inputs by two meanings with the same entries
module _ (μ ν : Meaning ℕ) (same : μ.entry_at ≡ ν.entry_at) where
  left_same : (e : ℕ) (c : Column) → column_lefts document01 μ e c ≡ column_lefts document01 ν e c
  unfolding column_lefts
  left_same e c =
      ap (λ (f : ℕ → ℕ). tabulate (λ i. f (bits_at e c + i)) (bits_of c) ++ map (λ p. f p.left) (products_at e c)) same

  lefts_same : (cs : List Column) (e : ℕ) → walk_lefts document01 μ e cs ≡ walk_lefts document01 ν e cs
  unfolding walk_lefts
  lefts_same [] e = refl
  lefts_same (c ∷ cs) e = ap₂ ◌++◌ (left_same e c) (lefts_same cs (e + entries_of c))

-- at a server and on a list
pub server_lefts : (k : ℕ) (x h : ℕ → ℕ) (cs : List Column)
    → walk_lefts document01 (at_server residues k x h) 0 cs ≡ walk_lefts document01 (plain 0 x) 0 cs
server_lefts k x h cs = lefts_same (at_server residues k x h) (plain 0 x) refl cs 0

pub list_lefts : (x : ℕ → ℕ) (cs : List Column)
    → walk_lefts document01 (on_list residues x) 0 cs ≡ walk_lefts document01 (plain 0 x) 0 cs
list_lefts x cs = lefts_same (on_list residues x) (plain 0 x) refl cs 0

-- the bit entries of a column are the last of its entries
pub bits_fit : (e : ℕ) (c : Column) → bits_at e c + bits_of c ≡ e + entries_of c
unfolding bits_at bits_of entries_of
bits_fit e yes_no = refl
bits_fit e (choice n) = refl
bits_fit e (number n) = omega arith
bits_fit e (top n) = omega arith
bits_fit e (point n) = omega arith
