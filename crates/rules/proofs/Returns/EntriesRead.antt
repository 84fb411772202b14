-- A sheet's circuit reads no entry past the sheet's: where two lists agree on the sheet's entries, the inputs of the
-- multiplications and the tests are the same. By the walk over the columns. Assumes nothing.
use mathlib.Core.Path.{◌≡◌, refl, sym, ◌∙◌, ap, ap₂}
use mathlib.Core.List.{List, [], ◌∷◌, ◌++◌, map}
use Prim.Native.Nat.{ℕ, zero, suc, ◌+◌, ◌-◌, ◌*◌, ◌^◌, ◌≤◌, ◌<◌}
use native.Mathlib.Omega.{arith}
use Rattle.algebra.specs.Lists.{All, all[], all∷}
use Rattle.algebra.specs.Ops.{Ops}
use Rattle.algebra.proofs.Members.{all_map}
use Rattle.algebra.proofs.Tables.{tabulate_cong}
use Rattle.rules.specs.Settings.{Setting}
use Rattle.rules.specs.Columns.{Column, yes_no, choice, number, top, point, bit_length, entries_of, entries_in}
use Rattle.rules.specs.Circuit.{gates_of, bits_of, Product, products_at, circuit_of}
use Rattle.rules.specs.Run.{Meaning, run, on_list}
use Rattle.rules.specs.Walk.{sum_from, less_one, bit_out, bits_at, column_lefts, column_rights, bit_tests, weighted}
use Rattle.rules.specs.Walk.{number_test, rest_test, number_tests, product_test, column_tests, walk_lefts, walk_rights, walk_tests}
use Rattle.rules.proofs.Circuits.Limits.{products_in_lem}
use Rattle.rules.proofs.Circuits.Walk.{walk_is_run}

-- f and g are the same from the number low to below high
abbrev pub SameFrom : {X : Type 0} → ℕ → ℕ → (ℕ → X) → (ℕ → X) → Type 0
SameFrom low high f g = (k : ℕ) → low ≤ k → k < high → f k ≡ g k

module _ {X : Type 0} (σ : Setting) (μ ν : Meaning X) where
  -- at the bit entries of a column
  bits_same : {Y : Type 0} (c : Column) (e : ℕ) (f g : ℕ → Y) → SameFrom e (e + entries_of c) f g → (i : ℕ) → i < bits_of c
      → f (bits_at e c + i) ≡ g (bits_at e c + i)
  unfolding bits_at entries_of bits_of
  bits_same yes_no e f g h i l = h (e + i) (omega arith) (omega arith)
  bits_same (choice n) e f g h i l = h (e + i) (omega arith) (omega arith)
  bits_same (number n) e f g h i l = h (suc e + i) (omega arith) (omega arith)
  bits_same (top n) e f g h i l = h (suc e + i) (omega arith) (omega arith)
  bits_same (point n) e f g h i l = h (e + 4 + i) (omega arith) (omega arith)

  -- at the entries that are multiplied
  products_same : {Y : Type 0} (f g : Product → Y) (ps : List Product) → All (λ p. f p ≡ g p) ps → map f ps ≡ map g ps
  products_same f g [] all[] = refl
  products_same f g (p ∷ ps) (all∷ h hs) = ap₂ ◌∷◌ h (products_same f g ps hs)

  lefts_same : (cs : List Column) (e : ℕ) → SameFrom e (e + entries_in cs) μ.entry_at ν.entry_at
      → walk_lefts σ μ e cs ≡ walk_lefts σ ν e cs
  unfolding walk_lefts column_lefts entries_in
  lefts_same [] e h = refl
  lefts_same (c ∷ cs) e h =
      ap₂ ◌++◌
      (ap₂ ◌++◌
      (tabulate_cong _ _ (bits_of c) (bits_same c e μ.entry_at ν.entry_at (λ k l u. h k l (omega arith))))
      (products_same _ _ (products_at e c)
      (all_map (λ p q. h p.left q.left_from (omega (arith, q.left_below))) (products_in_lem c e))))
      (lefts_same cs (e + entries_of c) (λ k l u. h k (omega arith) (omega arith)))

  rights_same : (cs : List Column) (e : ℕ) → SameFrom e (e + entries_in cs) μ.entry_at ν.entry_at
      → SameFrom e (e + entries_in cs) (less_one σ μ) (less_one σ ν) → walk_rights σ μ e cs ≡ walk_rights σ ν e cs
  unfolding walk_rights column_rights entries_in
  rights_same [] e h h' = refl
  rights_same (c ∷ cs) e h h' =
      ap₂ ◌++◌
      (ap₂ ◌++◌
      (tabulate_cong _ _ (bits_of c) (bits_same c e (less_one σ μ) (less_one σ ν) (λ k l u. h' k l (omega arith))))
      (products_same _ _ (products_at e c)
      (all_map (λ p q. h p.right q.right_from (omega (arith, q.right_below))) (products_in_lem c e))))
      (rights_same cs (e + entries_of c) (λ k l u. h k (omega arith) (omega arith)) (λ k l u. h' k (omega arith) (omega arith)))

  -- the inputs of the multiplications, for any two meanings that agree on entries, and on entries less 1
  module _ (cs : List Column) where
    pub inputs_left : SameFrom 0 (entries_in cs) μ.entry_at ν.entry_at
        → (run μ (circuit_of σ cs)).lefts ≡ (run ν (circuit_of σ cs)).lefts
    inputs_left h =
        (walk_is_run σ μ cs).lefts_are ∙ lefts_same cs 0 (λ k l u. h k l (omega arith)) ∙ sym (walk_is_run σ ν cs).lefts_are

    pub inputs_right : SameFrom 0 (entries_in cs) μ.entry_at ν.entry_at
        → SameFrom 0 (entries_in cs) (less_one σ μ) (less_one σ ν)
        → (run μ (circuit_of σ cs)).rights ≡ (run ν (circuit_of σ cs)).rights
    inputs_right h h' =
        (walk_is_run σ μ cs).rights_are
        ∙ rights_same cs 0 (λ k l u. h k l (omega arith)) (λ k l u. h' k l (omega arith))
        ∙ sym (walk_is_run σ ν cs).rights_are

-- the tests on two lists
module _ (O : Ops) (σ : Setting) (x y : ℕ → O.F) where
  abbrev μ : Meaning O.F
  μ = on_list O x

  abbrev ν : Meaning O.F
  ν = on_list O y

  output_same : (e t : ℕ) → x e ≡ y e → bit_out σ μ e t ≡ bit_out σ ν e t
  unfolding bit_out less_one
  output_same e t q = ap (λ v. O.◌⊗◌ v (O.◌⊕◌ v (O.ι (σ.modulus - 1)))) q

  sum_same : (a b : O.F) (f g : ℕ → O.F) (n : ℕ) → a ≡ b → ((i : ℕ) → i < n → f i ≡ g i)
      → sum_from σ μ a f n ≡ sum_from σ ν b g n
  unfolding sum_from
  sum_same a b f g zero q h = q
  sum_same a b f g (suc n) q h = ap₂ O.◌⊕◌ (sum_same a b f g n q (λ i l. h i (omega arith))) (h n (omega arith))

  bit_tests_same : (e t n : ℕ) → ((i : ℕ) → i < n → x (e + i) ≡ y (e + i)) → bit_tests σ μ e t n ≡ bit_tests σ ν e t n
  unfolding bit_tests
  bit_tests_same e t n h = tabulate_cong _ _ n (λ i l. output_same (e + i) (t + i) (h i l))

  weighted_same : (a b : O.F) (e n : ℕ) → a ≡ b → ((i : ℕ) → i < n → x (e + i) ≡ y (e + i))
      → weighted σ μ a e n ≡ weighted σ ν b e n
  unfolding weighted
  weighted_same a b e n q h =
      sum_same a b (λ i. O.◌⊗◌ (x (e + i)) (O.ι (2 ^ i))) (λ i. O.◌⊗◌ (y (e + i)) (O.ι (2 ^ i))) n q
      (λ i l. ap (λ v. O.◌⊗◌ v (O.ι (2 ^ i))) (h i l))

  number_test_same : (a e n : ℕ) → x a ≡ y a → ((i : ℕ) → i < n → x (e + i) ≡ y (e + i))
      → number_test σ μ a e n ≡ number_test σ ν a e n
  unfolding number_test
  number_test_same a e n q h = weighted_same _ _ e n (ap (λ v. O.◌⊗◌ v (O.ι (σ.modulus - 1))) q) h

  number_tests_same : (a e t n : ℕ) → x a ≡ y a → ((i : ℕ) → i < n → x (e + i) ≡ y (e + i))
      → number_tests σ μ a e t n ≡ number_tests σ ν a e t n
  unfolding number_tests
  number_tests_same a e t n q h = ap₂ (λ u v. u ++ (v ∷ [])) (bit_tests_same e t n h) (number_test_same a e n q h)

  product_test_same : (t a b c : ℕ) → x a ≡ y a → x b ≡ y b → x c ≡ y c → product_test σ μ t a b c ≡ product_test σ ν t a b c
  unfolding product_test
  product_test_same t a b c p q r = ap₂ O.◌⊕◌ (ap₂ O.◌⊗◌ p q) (ap (λ v. O.◌⊗◌ v (O.ι (σ.modulus - 1))) r)

  column_tests_same : (c : Column) (e t : ℕ) → SameFrom e (e + entries_of c) x y
      → column_tests σ μ e t c ≡ column_tests σ ν e t c
  unfolding column_tests rest_test entries_of
  column_tests_same yes_no e t h = bit_tests_same e t 1 (λ i l. h (e + i) (omega arith) (omega arith))
  column_tests_same (choice n) e t h =
      ap₂ (λ a b. a ++ (b ∷ []))
      (bit_tests_same e t n (λ i l. h (e + i) (omega arith) (omega arith)))
      (sum_same _ _ (λ i. x (e + i)) (λ i. y (e + i)) n refl (λ i l. h (e + i) (omega arith) (omega arith)))
  column_tests_same (number n) e t h =
      number_tests_same e (suc e) t n (h e (omega arith) (omega arith)) (λ i l. h (suc e + i) (omega arith) (omega arith))
  column_tests_same (top n) e t h =
      ap₂ ◌++◌
      (bit_tests_same (suc e) t (2 * b) (λ i l. h (suc e + i) (omega arith) (omega arith)))
      (ap₂ (λ u v. u ∷ v ∷ [])
      (number_test_same e (suc e) b (h e (omega arith) (omega arith)) (λ i l. h (suc e + i) (omega arith) (omega arith)))
      (weighted_same _ _ (suc e + b) b
      (ap (O.◌⊕◌ (O.ι (σ.modulus - n))) (h e (omega arith) (omega arith)))
      (λ i l. h (suc e + b + i) (omega arith) (omega arith))))
    where
      b : ℕ
      b = bit_length n
  column_tests_same (point n) e t h =
      ap₂ ◌++◌ (number_tests_same e (e + 4) t n x0 (λ i l. h (e + 4 + i) (omega arith) (omega arith)))
      (ap₂ ◌++◌ (number_tests_same (e + 2) (e + 4 + n) (t + n) n x2 (λ i l. h (e + 4 + n + i) (omega arith) (omega arith)))
      (ap₂ (λ u v. u ∷ v ∷ [])
      (product_test_same _ e e (e + 1) x0 x0 (h (e + 1) (omega arith) (omega arith)))
      (product_test_same _ e (e + 2) (e + 3) x0 x2 (h (e + 3) (omega arith) (omega arith)))))
    where
      x0 : x e ≡ y e
      x0 = h e (omega arith) (omega arith)

      x2 : x (e + 2) ≡ y (e + 2)
      x2 = h (e + 2) (omega arith) (omega arith)

  tests_same : (cs : List Column) (e t : ℕ) → SameFrom e (e + entries_in cs) x y → walk_tests σ μ e t cs ≡ walk_tests σ ν e t cs
  unfolding walk_tests entries_in
  tests_same [] e t h = refl
  tests_same (c ∷ cs) e t h =
      ap₂ ◌++◌ (column_tests_same c e t (λ k l u. h k l (omega arith)))
      (tests_same cs (e + entries_of c) (t + gates_of c) (λ k l u. h k (omega arith) (omega arith)))

  pub list_tests : (cs : List Column) → SameFrom 0 (entries_in cs) x y
      → (run μ (circuit_of σ cs)).tests ≡ (run ν (circuit_of σ cs)).tests
  list_tests cs h =
      (walk_is_run σ μ cs).tests_are ∙ tests_same cs 0 0 (λ k l u. h k l (omega arith)) ∙ sym (walk_is_run σ ν cs).tests_are
