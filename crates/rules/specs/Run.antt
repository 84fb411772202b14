-- Document 01, "Sheet and circuit" and "Judging": the run of a circuit. One evaluator, over what the wires may hold.
-- Assumes nothing.
use Rattle.std.specs.Prelude.{◌≡◌, List, [], ◌∷◌, ◌++◌, ℕ, suc, length, get_or}
use Rattle.algebra.specs.Lists.{All}
use Rattle.algebra.specs.Ops.{Ops}
use Rattle.rules.specs.Settings.{Setting}
use Rattle.rules.specs.Columns.{Column}
use Rattle.rules.specs.Circuit.{Step, constant, entry, add, scale, multiply, test, circuit_of}

-- What the steps mean where wires hold values of X: an entry, a constant, the sum of two wires, a wire times a constant,
-- the output of multiplication t (from 1) on its two inputs; `none` is what a wire that is not made holds
pub record Meaning (X : Type 0) : Type 0 where
  pub none : X
  pub entry_at : ℕ → X
  pub constant_of : ℕ → X
  pub plus : X → X → X
  pub times : X → ℕ → X
  pub gate : ℕ → X → X → X

-- What a run has made: the wires from 0, the two inputs u_t and v_t of each multiplication, the tested wires
pub record Trace (X : Type 0) : Type 0 where
  pub wires : List X
  pub lefts : List X
  pub rights : List X
  pub tests : List X

module _ {X : Type 0} where
  abbrev pub nothing : Trace X
  nothing = record { wires = []; lefts = []; rights = []; tests = [] }

  abbrev pub make_wire : X → Trace X → Trace X
  make_wire x t = record { wires = t.wires ++ (x ∷ []); lefts = t.lefts; rights = t.rights; tests = t.tests }

  abbrev pub make_gate : X → X → Trace X → Trace X
  make_gate u v t = record { wires = t.wires; lefts = t.lefts ++ (u ∷ []); rights = t.rights ++ (v ∷ []); tests = t.tests }

  abbrev pub make_test : X → Trace X → Trace X
  make_test x t = record { wires = t.wires; lefts = t.lefts; rights = t.rights; tests = t.tests ++ (x ∷ []) }

module _ {X : Type 0} (μ : Meaning X) where
  abbrev pub wire_at : Trace X → ℕ → X
  wire_at t k = get_or t.wires k μ.none

  unfoldable pub step_run : Trace X → Step → Trace X
  step_run t (constant c) = make_wire (μ.constant_of c) t
  step_run t (entry e) = make_wire (μ.entry_at e) t
  step_run t (add a b) = make_wire (μ.plus (wire_at t a) (wire_at t b)) t
  step_run t (scale a c) = make_wire (μ.times (wire_at t a) c) t
  step_run t (multiply a b) =
      make_wire (μ.gate (suc (length t.lefts)) (wire_at t a) (wire_at t b)) (make_gate (wire_at t a) (wire_at t b) t)
  step_run t (test a) = make_test (wire_at t a) t

  unfoldable pub run_from : Trace X → List Step → Trace X
  run_from t [] = t
  run_from t (k ∷ ks) = run_from (step_run t k) ks

  unfoldable pub run : List Step → Trace X
  run ks = run_from nothing ks

module _ (O : Ops) where
  open O use {F, ◌⊕◌, ◌⊗◌, 𝟘, ι}

  infixl 65 ◌⊕◌
  infixl 70 ◌⊗◌
  -- On a list of entries itself: each multiplication multiplies
  abbrev pub on_list : (ℕ → F) → Meaning F
  on_list x = record {
    none = 𝟘;
    entry_at = x;
    constant_of = ι;
    plus = ◌⊕◌;
    times = λ a c. a ⊗ ι c;
    gate = λ t u v. u ⊗ v;
  }

  -- At a server: "gate outputs are its shares of h(1)..h(M). Only server 0 adds constants." k is the factor on constants,
  -- 1 at server 0 and 0 elsewhere; the factors of step kind 4 apply at every server
  abbrev pub at_server : F → (ℕ → F) → (ℕ → F) → Meaning F
  at_server k x h = record {
    none = 𝟘;
    entry_at = x;
    constant_of = λ c. k ⊗ ι c;
    plus = ◌⊕◌;
    times = λ a c. a ⊗ ι c;
    gate = λ t u v. h t;
  }

  -- "A list is valid when all tests are zero."
  abbrev pub Valid : Setting → List Column → (ℕ → F) → Type 0
  Valid σ cs x = All (λ y. y ≡ 𝟘) (run (on_list x) (circuit_of σ cs)).tests
