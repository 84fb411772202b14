-- Walking the columns is the run of the sheet's circuit: each column's steps add the column's own inputs and tests, and
-- leave wire 0 as it was. So the numbers of inputs, tests and wires are the sheet's counts. Assumes nothing.
use mathlib.Core.Path.{◌≡◌, refl, sym, ◌∙◌, ap, ap₂}
use mathlib.Core.List.{List, [], ◌∷◌, ◌++◌, append-nil}
use Prim.Native.Nat.{ℕ, suc, ◌+◌, ◌-◌, ◌*◌}
use native.Mathlib.Omega.{arith}
use lib.ListN.{length, length-append, length-map}
use Rattle.algebra.specs.Lists.{tabulate}
use Rattle.algebra.proofs.Tables.{length_tabulate}
use Rattle.rules.specs.Settings.{Setting}
use Rattle.rules.specs.Columns.{Column, yes_no, choice, number, top, point, bit_length, entries_of}
use Rattle.rules.specs.Circuit.{column_steps, bits_of, products_at}
use Rattle.rules.specs.Circuit.{wires_of, gates_of, tests_of, circuit_from, circuit_of, wires_in, gates_in, tests_in}
use Rattle.rules.specs.Run.{Meaning, Trace, nothing, make_wire, step_run, run_from, run}
use Rattle.rules.specs.Walk.{less_one, bits_at, column_lefts, column_rights, bit_tests, number_tests, column_tests}
use Rattle.rules.specs.Walk.{walk_lefts, walk_rights, walk_tests}
use Rattle.rules.proofs.Circuits.Limits.{products_many}
use Rattle.rules.proofs.Circuits.Growth.{run_append, Grown, stay}
use Rattle.rules.proofs.Circuits.Growth.{then}
use Rattle.rules.proofs.Circuits.ColumnRuns.{column_run}
use Rattle.rules.proofs.Circuits.Stretches.{Before, after}

module _ {X : Type 0} (σ : Setting) (μ : Meaning X) where
  pub record Walked (cs : List Column) : Type 0 where
    pub lefts_are : (run μ (circuit_of σ cs)).lefts ≡ walk_lefts σ μ 0 cs
    pub rights_are : (run μ (circuit_of σ cs)).rights ≡ walk_rights σ μ 0 cs
    pub tests_are : (run μ (circuit_of σ cs)).tests ≡ walk_tests σ μ 0 0 cs
    pub lefts_count : length (run μ (circuit_of σ cs)).lefts ≡ gates_in cs
    pub rights_count : length (run μ (circuit_of σ cs)).rights ≡ gates_in cs
    pub tests_count : length (run μ (circuit_of σ cs)).tests ≡ tests_in cs
    pub wires_count : length (run μ (circuit_of σ cs)).wires ≡ suc (wires_in cs)

  -- ---- a sheet
  row_length : (f : ℕ → X) (n : ℕ) (l : List X) → length (tabulate f n ++ l) ≡ n + length l
  row_length f n l = length-append (tabulate f n) l ∙ ap (◌+ length l) (length_tabulate f n)

  pub column_lefts_lem : (c : Column) (e : ℕ) → length (column_lefts σ μ e c) ≡ gates_of c
  unfolding column_lefts
  column_lefts_lem c e =
      row_length (λ i. μ.entry_at (bits_at e c + i)) (bits_of c) _
      ∙ ap (bits_of c +◌) (length-map (products_at e c) (λ p. μ.entry_at p.left)) ∙ products_many c e

  column_rights_lem : (c : Column) (e : ℕ) → length (column_rights σ μ e c) ≡ gates_of c
  unfolding column_rights
  column_rights_lem c e =
      row_length (λ i. less_one σ μ (bits_at e c + i)) (bits_of c) _
      ∙ ap (bits_of c +◌) (length-map (products_at e c) (λ p. μ.entry_at p.right)) ∙ products_many c e

  sheet_run : (cs : List Column) (s : Trace X) (e w t : ℕ) → Before σ μ s w t
      → Grown μ s (run_from μ s (circuit_from σ e w cs)) (wires_in cs)
      (walk_lefts σ μ e cs) (walk_rights σ μ e cs) (walk_tests σ μ e t cs)
  unfolding circuit_from wires_in walk_lefts walk_rights walk_tests run_from
  sheet_run [] s e w t b = stay μ s
  sheet_run (c ∷ cs) s e w t b =
      rw (run_append μ (column_steps σ e w c) (circuit_from σ (e + entries_of c) (w + wires_of c) cs) s)
      (then μ one
      (sheet_run cs (run_from μ s (column_steps σ e w c)) (e + entries_of c) (w + wires_of c) (t + gates_of c)
      (after σ μ b one (gates_of c) (column_lefts_lem c e))))
    where
      one : Grown μ s (run_from μ s (column_steps σ e w c)) (wires_of c)
          (column_lefts σ μ e c) (column_rights σ μ e c) (column_tests σ μ e t c)
      one = column_run σ μ c s e w t b

  -- ---- counts
  pub length_lefts : (cs : List Column) (e : ℕ) → length (walk_lefts σ μ e cs) ≡ gates_in cs
  unfolding walk_lefts gates_in
  length_lefts [] e = refl
  length_lefts (c ∷ cs) e =
      length-append (column_lefts σ μ e c) _ ∙ ap₂ ◌+◌ (column_lefts_lem c e) (length_lefts cs (e + entries_of c))

  pub length_rights : (cs : List Column) (e : ℕ) → length (walk_rights σ μ e cs) ≡ gates_in cs
  unfolding walk_rights gates_in
  length_rights [] e = refl
  length_rights (c ∷ cs) e =
      length-append (column_rights σ μ e c) _ ∙ ap₂ ◌+◌ (column_rights_lem c e) (length_rights cs (e + entries_of c))

  row_tests : (e t n : ℕ) (l : List X) → length (bit_tests σ μ e t n ++ l) ≡ n + length l
  unfolding bit_tests
  row_tests e t n l = row_length _ n l

  number_tests_lem : (a e t n : ℕ) (l : List X) → length (number_tests σ μ a e t n ++ l) ≡ n + 1 + length l
  unfolding number_tests
  number_tests_lem a e t n l = length-append (number_tests σ μ a e t n) l ∙ ap (◌+ length l) (row_tests e t n _)

  pub column_tests_lem : (c : Column) (e t : ℕ) → length (column_tests σ μ e t c) ≡ tests_of c
  unfolding column_tests number_tests tests_of
  column_tests_lem yes_no e t = sym (ap length (append-nil (bit_tests σ μ e t 1))) ∙ row_tests e t 1 []
  column_tests_lem (choice n) e t = row_tests e t n _
  column_tests_lem (number n) e t = row_tests (suc e) t n _
  column_tests_lem (top n) e t = row_tests (suc e) t (2 * bit_length n) _
  column_tests_lem (point n) e t =
      number_tests_lem e (e + 4) t n _ ∙ ap (n + 1 +◌) (number_tests_lem (e + 2) (e + 4 + n) (t + n) n _) ∙ omega arith

  pub length_tests : (cs : List Column) (e t : ℕ) → length (walk_tests σ μ e t cs) ≡ tests_in cs
  unfolding walk_tests tests_in
  length_tests [] e t = refl
  length_tests (c ∷ cs) e t =
      length-append (column_tests σ μ e t c) _
      ∙ ap₂ ◌+◌ (column_tests_lem c e t) (length_tests cs (e + entries_of c) (t + gates_of c))

  pub walk_is_run : (cs : List Column) → Walked cs
  unfolding circuit_of run run_from step_run
  walk_is_run cs = record {
    lefts_are = g.lefts_are;
    rights_are = g.rights_are;
    tests_are = g.tests_are;
    lefts_count = ap length g.lefts_are ∙ length_lefts cs 0;
    rights_count = ap length g.rights_are ∙ length_rights cs 0;
    tests_count = ap length g.tests_are ∙ length_tests cs 0 0;
    wires_count = omega (arith, g.made);
  }
    where
      start : Trace X
      start = make_wire (μ.constant_of (σ.modulus - 1)) nothing

      g : Grown μ start (run_from μ start (circuit_from σ 0 1 cs)) (wires_in cs)
          (walk_lefts σ μ 0 cs) (walk_rights σ μ 0 cs) (walk_tests σ μ 0 0 cs)
      g =
          sheet_run cs start 0 1 0
          (record { some_wires = omega arith; wires_are = refl; gates_are = refl; minus_one_lem = refl })
