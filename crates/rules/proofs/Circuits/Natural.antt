-- The run of a circuit under a map that keeps what the steps mean: the map may be put to the trace or to the meaning.
-- Linearity in the servers, and the way from a field to numbers, are uses of this one law. Assumes nothing.
use mathlib.Core.Path.{◌≡◌, refl, sym, ◌∙◌, ap, ap₂}
use mathlib.Core.List.{List, [], ◌∷◌, ◌++◌, map, map-append}
use Prim.Native.Nat.{ℕ, suc}
use lib.ListN.{length, get_or, length-map, get_or-map}
use Rattle.algebra.specs.Ops.{Ops, Hom}
use Rattle.rules.specs.Circuit.{Step, constant, entry, add, scale, multiply, test}
use Rattle.rules.specs.Run.{Meaning, Trace, nothing, make_wire, make_gate, make_test, wire_at, step_run, run_from, run}
use Rattle.rules.specs.Run.{at_server, on_list}

abbrev pub map_trace : {X Y : Type 0} → (X → Y) → Trace X → Trace Y
map_trace φ t =
    record { wires = map φ t.wires; lefts = map φ t.lefts; rights = map φ t.rights; tests = map φ t.tests }

pub record Keeps {X Y : Type 0} (φ : X → Y) (μ : Meaning X) (ν : Meaning Y) : Type 0 where
  pub none_is : φ μ.none ≡ ν.none
  pub entry_is : (e : ℕ) → φ (μ.entry_at e) ≡ ν.entry_at e
  pub constant_is : (c : ℕ) → φ (μ.constant_of c) ≡ ν.constant_of c
  pub plus_is : (a b : X) → φ (μ.plus a b) ≡ ν.plus (φ a) (φ b)
  pub times_is : (a : X) (c : ℕ) → φ (μ.times a c) ≡ ν.times (φ a) c
  pub gate_is : (t : ℕ) (u v : X) → φ (μ.gate t u v) ≡ ν.gate t (φ u) (φ v)

module _ {X Y : Type 0} {φ : X → Y} {μ : Meaning X} {ν : Meaning Y} (K : Keeps φ μ ν) where
  open K use {none_is, entry_is, constant_is, plus_is, times_is, gate_is}

  wire_map : (t : Trace X) (k : ℕ) → φ (wire_at μ t k) ≡ wire_at ν (map_trace φ t) k
  wire_map t k = sym (get_or-map φ t.wires k μ.none) ∙ ap (get_or (map φ t.wires) k) none_is

  made : (t : Trace X) {x : X} {y : Y} → φ x ≡ y → map_trace φ (make_wire x t) ≡ make_wire y (map_trace φ t)
  made t {x} {y} e = λ i. record {
    wires = (map-append φ t.wires (x ∷ []) ∙ ap (λ z. map φ t.wires ++ (z ∷ [])) e) i;
    lefts = map φ t.lefts;
    rights = map φ t.rights;
    tests = map φ t.tests;
  }

  gated : (t : Trace X) {u v : X} {a b : Y} → φ u ≡ a → φ v ≡ b
      → map_trace φ (make_gate u v t) ≡ make_gate a b (map_trace φ t)
  gated t {u} {v} e h = λ i. record {
    wires = map φ t.wires;
    lefts = (map-append φ t.lefts (u ∷ []) ∙ ap (λ z. map φ t.lefts ++ (z ∷ [])) e) i;
    rights = (map-append φ t.rights (v ∷ []) ∙ ap (λ z. map φ t.rights ++ (z ∷ [])) h) i;
    tests = map φ t.tests;
  }

  tested : (t : Trace X) {x : X} {y : Y} → φ x ≡ y → map_trace φ (make_test x t) ≡ make_test y (map_trace φ t)
  tested t {x} {y} e = λ i. record {
    wires = map φ t.wires;
    lefts = map φ t.lefts;
    rights = map φ t.rights;
    tests = (map-append φ t.tests (x ∷ []) ∙ ap (λ z. map φ t.tests ++ (z ∷ [])) e) i;
  }

  -- the output of the next multiplication
  abbrev output_at : Trace Y → ℕ → ℕ → Y
  output_at t a b = ν.gate (suc (length t.lefts)) (wire_at ν t a) (wire_at ν t b)

  step_map : (t : Trace X) (k : Step) → map_trace φ (step_run μ t k) ≡ step_run ν (map_trace φ t) k
  unfolding step_run
  step_map t (constant c) = made t (constant_is c)
  step_map t (entry e) = made t (entry_is e)
  step_map t (add a b) = made t (plus_is _ _ ∙ ap₂ ν.plus (wire_map t a) (wire_map t b))
  step_map t (scale a c) = made t (times_is _ c ∙ ap (λ z. ν.times z c) (wire_map t a))
  step_map t (multiply a b) =
      made (make_gate (wire_at μ t a) (wire_at μ t b) t) (gate_is _ _ _ ∙ out)
      ∙ ap (make_wire (output_at (map_trace φ t) a b)) (gated t (wire_map t a) (wire_map t b))
    where
      out : ν.gate (suc (length t.lefts)) (φ (wire_at μ t a)) (φ (wire_at μ t b)) ≡ output_at (map_trace φ t) a b
      out = λ i. ν.gate (suc (sym (length-map t.lefts φ) i)) (wire_map t a i) (wire_map t b i)
  step_map t (test a) = tested t (wire_map t a)

  run_from_map : (ks : List Step) (t : Trace X) → map_trace φ (run_from μ t ks) ≡ run_from ν (map_trace φ t) ks
  unfolding run_from
  run_from_map [] t = refl
  run_from_map (k ∷ ks) t = run_from_map ks (step_run μ t k) ∙ ap (λ z. run_from ν z ks) (step_map t k)

  pub run_map : (ks : List Step) → map_trace φ (run μ ks) ≡ run ν ks
  unfolding run
  run_map ks = run_from_map ks nothing

-- a map that keeps the operations keeps what the steps mean, on a list and at a server
module _ {A B : Ops} (h : Hom A B) where
  open h use {φ, add, mul, nil, num}

  pub server_keeps : (k : A.F) (x g : ℕ → A.F)
      → Keeps φ (at_server A k x g) (at_server B (φ k) (λ e. φ (x e)) (λ t. φ (g t)))
  server_keeps k x g = record {
    none_is = nil;
    entry_is = λ e. refl;
    constant_is = λ c. mul _ _ ∙ ap (B.◌⊗◌ (φ k)) (num c);
    plus_is = add;
    times_is = λ a c. mul _ _ ∙ ap (B.◌⊗◌ (φ a)) (num c);
    gate_is = λ t u v. refl;
  }

  pub list_keeps : (x : ℕ → A.F) → Keeps φ (on_list A x) (on_list B (λ e. φ (x e)))
  list_keeps x = record {
    none_is = nil;
    entry_is = λ e. refl;
    constant_is = num;
    plus_is = add;
    times_is = λ a c. mul _ _ ∙ ap (B.◌⊗◌ (φ a)) (num c);
    gate_is = λ t u v. mul u v;
  }
