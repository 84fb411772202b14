-- Steps make a trace longer at its ends: a stretch of steps adds some wires and lists of inputs and tests, and keeps the
-- wires made before. Stretches follow one another, and a step whose wires are known adds what these say. Assumes nothing.
use mathlib.Core.Path.{◌≡◌, refl, sym, ◌∙◌, ap, ap₂}
use mathlib.Core.List.{List, [], ◌∷◌, ◌++◌, append-nil, append_assoc}
use Prim.Native.Nat.{ℕ, suc, ◌+◌, ◌<◌}
use native.Mathlib.Nat.{add-zero}
use native.Mathlib.Omega.{arith}
use lib.ListN.{length, length-append, get_or-append}
use lib.Seq.{get_or_at}
use Rattle.rules.specs.Circuit.{Step, add, scale, multiply, test}
use Rattle.rules.specs.Run.{Meaning, Trace, make_wire, make_gate, make_test, wire_at, step_run, run_from}

module _ {X : Type 0} (μ : Meaning X) where
  pub run_append : (a b : List Step) (s : Trace X) → run_from μ s (a ++ b) ≡ run_from μ (run_from μ s a) b
  unfolding run_from
  run_append [] b s = refl
  run_append (k ∷ a) b s = run_append a b (step_run μ s k)

  -- ---- the wires after one more is made
  pub last_wire : (s : Trace X) (x : X) (k : ℕ) → length s.wires ≡ k → wire_at μ (make_wire x s) k ≡ x
  last_wire s x k e = get_or_at s.wires x [] μ.none k e

  pub old_wire : (s : Trace X) (x : X) (k : ℕ) → k < length s.wires → wire_at μ (make_wire x s) k ≡ wire_at μ s k
  old_wire s x k l = get_or-append s.wires (x ∷ []) μ.none k l

  pub more_wires : (s : Trace X) (x : X) → length (make_wire x s).wires ≡ length s.wires + 1
  more_wires s x = length-append s.wires (x ∷ [])

  -- ---- a stretch from s to s': n wires more, and these inputs and tests
  pub record Grown (s s' : Trace X) (n : ℕ) (ls rs ts : List X) : Type 0 where
    pub made : length s'.wires ≡ length s.wires + n
    pub kept : (k : ℕ) → k < length s.wires → wire_at μ s' k ≡ wire_at μ s k
    pub lefts_are : s'.lefts ≡ s.lefts ++ ls
    pub rights_are : s'.rights ≡ s.rights ++ rs
    pub tests_are : s'.tests ≡ s.tests ++ ts

  pub stay : (s : Trace X) → Grown s s 0 [] [] []
  stay s = record {
    made = sym (add-zero _);
    kept = λ k l. refl;
    lefts_are = sym (append-nil _);
    rights_are = sym (append-nil _);
    tests_are = sym (append-nil _);
  }

  pub one_wire : (s : Trace X) (x : X) → Grown s (make_wire x s) 1 [] [] []
  one_wire s x = record {
    made = more_wires s x;
    kept = old_wire s x;
    lefts_are = sym (append-nil _);
    rights_are = sym (append-nil _);
    tests_are = sym (append-nil _);
  }

  pub one_gate : (s : Trace X) (u v : X) → Grown s (make_gate u v s) 0 (u ∷ []) (v ∷ []) []
  one_gate s u v = record {
    made = sym (add-zero _);
    kept = λ k l. refl;
    lefts_are = refl;
    rights_are = refl;
    tests_are = sym (append-nil _);
  }

  pub one_test : (s : Trace X) (x : X) → Grown s (make_test x s) 0 [] [] (x ∷ [])
  one_test s x = record {
    made = sym (add-zero _);
    kept = λ k l. refl;
    lefts_are = sym (append-nil _);
    rights_are = sym (append-nil _);
    tests_are = refl;
  }

  pub then : {s s' s'' : Trace X} {n m : ℕ} {ls rs ts ls' rs' ts' : List X}
      → Grown s s' n ls rs ts → Grown s' s'' m ls' rs' ts'
      → Grown s s'' (n + m) (ls ++ ls') (rs ++ rs') (ts ++ ts')
  then {s} {ls = ls} {rs} {ts} {ls'} {rs'} {ts'} a b = record {
    made = omega arith;
    kept = λ k l. b.kept k (omega arith) ∙ a.kept k l;
    lefts_are = b.lefts_are ∙ ap (◌++ ls') a.lefts_are ∙ append_assoc s.lefts ls ls';
    rights_are = b.rights_are ∙ ap (◌++ rs') a.rights_are ∙ append_assoc s.rights rs rs';
    tests_are = b.tests_are ∙ ap (◌++ ts') a.tests_are ∙ append_assoc s.tests ts ts';
  }

  pub grown_is : {s s' : Trace X} {n m : ℕ} {ls rs ts ls' rs' ts' : List X}
      → Grown s s' n ls rs ts → n ≡ m → ls ≡ ls' → rs ≡ rs' → ts ≡ ts' → Grown s s' m ls' rs' ts'
  grown_is {s} a e f g h = record {
    made = a.made ∙ ap (length s.wires +◌) e;
    kept = a.kept;
    lefts_are = a.lefts_are ∙ ap (s.lefts ++◌) f;
    rights_are = a.rights_are ∙ ap (s.rights ++◌) g;
    tests_are = a.tests_are ∙ ap (s.tests ++◌) h;
  }

  pub grown_to : {s s' z : Trace X} {n : ℕ} {ls rs ts : List X} → s' ≡ z → Grown s z n ls rs ts → Grown s s' n ls rs ts
  grown_to e a = rw e a

  -- ---- steps whose wires are known
  module _ (s : Trace X) (a : ℕ) {x : X} (e : wire_at μ s a ≡ x) where
    pub scale_run : (c : ℕ) → step_run μ s (scale a c) ≡ make_wire (μ.times x c) s
    unfolding step_run
    scale_run c = ap (λ u. make_wire (μ.times u c) s) e

    pub test_run : step_run μ s (test a) ≡ make_test x s
    unfolding step_run
    test_run = ap (λ u. make_test u s) e

    pub add_run : (b : ℕ) {y : X} → wire_at μ s b ≡ y → step_run μ s (add a b) ≡ make_wire (μ.plus x y) s
    unfolding step_run
    add_run b f = ap₂ (λ u v. make_wire (μ.plus u v) s) e f

    pub multiply_run : (b t : ℕ) {y : X} → wire_at μ s b ≡ y → length s.lefts ≡ t
        → step_run μ s (multiply a b) ≡ make_wire (μ.gate (suc t) x y) (make_gate x y s)
    unfolding step_run
    multiply_run b t f h = λ i. make_wire (μ.gate (suc (h i)) (e i) (f i)) (make_gate (e i) (f i) s)
