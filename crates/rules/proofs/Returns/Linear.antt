-- The run at the servers adds up to the run on what is added up. Both come by naturality from one run whose wires hold
-- functions of the server: taking the value at a server, and adding up over the servers, keep what the steps mean.
-- Assumes nothing.
use mathlib.Core.Path.{◌≡◌, refl, sym, ◌∙◌, ap}
use mathlib.Core.List.{List, map}
use Prim.Native.Nat.{ℕ}
use lib.ListN.{get_or, get_or-map}
use Rattle.algebra.specs.Ops.{Field}
use Rattle.algebra.specs.Sums.{sum}
use Rattle.algebra.proofs.Sums.{sum_zero, sum_add, sum_times}
use Rattle.rules.specs.Circuit.{Step}
use Rattle.rules.specs.Run.{Meaning, run, at_server}
use Rattle.rules.proofs.Circuits.Natural.{Keeps, run_map}

-- S servers, with factors k on constants, entries x and outputs h
module _ (𝓕 : Field) (servers : ℕ) (k : ℕ → 𝓕.ops.F) (x h : ℕ → ℕ → 𝓕.ops.F) where
  open 𝓕.ops use {F, ◌⊕◌, ◌⊗◌, 𝟘, ι}

  infixl 65 ◌⊕◌
  infixl 70 ◌⊗◌
  abbrev total : (ℕ → F) → F
  total a = sum 𝓕.ops servers a

  -- all servers at once
  abbrev pub together : Meaning (ℕ → F)
  together = record {
    none = λ i. 𝟘;
    entry_at = λ e i. x i e;
    constant_of = λ c i. k i ⊗ ι c;
    plus = λ a b i. a i ⊕ b i;
    times = λ a c i. a i ⊗ ι c;
    gate = λ t u v i. h i t;
  }

  -- server i's own
  abbrev pub own : ℕ → Meaning F
  own i = at_server 𝓕.ops (k i) (x i) (h i)

  -- on what is added up
  abbrev pub added : Meaning F
  added = at_server 𝓕.ops (total k) (λ e. total (λ i. x i e)) (λ t. total (λ i. h i t))

  pub at_server_lem : (i : ℕ) → Keeps (λ a. a i) together (own i)
  at_server_lem i = record {
    none_is = refl;
    entry_is = λ e. refl;
    constant_is = λ c. refl;
    plus_is = λ a b. refl;
    times_is = λ a c. refl;
    gate_is = λ t u v. refl;
  }

  none_adds : total (λ i. 𝟘) ≡ 𝟘
  none_adds = sum_zero 𝓕 servers (λ i. 𝟘) (λ i l. refl)

  pub adding : Keeps total together added
  adding = record {
    none_is = none_adds;
    entry_is = λ e. refl;
    constant_is = λ c. sum_times 𝓕 servers k (ι c);
    plus_is = λ a b. sum_add 𝓕 servers a b;
    times_is = λ a c. sum_times 𝓕 servers a (ι c);
    gate_is = λ t u v. refl;
  }

  pub list_add : (l : List (ℕ → F)) (n : ℕ) → get_or (map total l) n 𝟘 ≡ total (λ i. get_or (map (λ a. a i) l) n 𝟘)
  list_add l n =
      ap (get_or (map total l) n) (sym none_adds)
      ∙ get_or-map total l n (λ i. 𝟘)
      ∙ ap total (λ j i. sym (get_or-map (λ (a : ℕ → F). a i) l n (λ i. 𝟘)) j)

  -- each wire, input and test of the added-up run is the sum of the servers'
  module _ (ks : List Step) where
    pub wires_add : (n : ℕ) → get_or (run added ks).wires n 𝟘 ≡ total (λ i. get_or (run (own i) ks).wires n 𝟘)
    wires_add n =
        ap (λ z. get_or z.wires n 𝟘) (sym (run_map adding ks))
        ∙ list_add (run together ks).wires n
        ∙ ap total (λ j i. get_or (run_map (at_server_lem i) ks j).wires n 𝟘)

    pub lefts_add : (n : ℕ) → get_or (run added ks).lefts n 𝟘 ≡ total (λ i. get_or (run (own i) ks).lefts n 𝟘)
    lefts_add n =
        ap (λ z. get_or z.lefts n 𝟘) (sym (run_map adding ks))
        ∙ list_add (run together ks).lefts n
        ∙ ap total (λ j i. get_or (run_map (at_server_lem i) ks j).lefts n 𝟘)

    pub rights_add : (n : ℕ) → get_or (run added ks).rights n 𝟘 ≡ total (λ i. get_or (run (own i) ks).rights n 𝟘)
    rights_add n =
        ap (λ z. get_or z.rights n 𝟘) (sym (run_map adding ks))
        ∙ list_add (run together ks).rights n
        ∙ ap total (λ j i. get_or (run_map (at_server_lem i) ks j).rights n 𝟘)

    pub tests_add : (n : ℕ) → get_or (run added ks).tests n 𝟘 ≡ total (λ i. get_or (run (own i) ks).tests n 𝟘)
    tests_add n =
        ap (λ z. get_or z.tests n 𝟘) (sym (run_map adding ks))
        ∙ list_add (run together ks).tests n
        ∙ ap total (λ j i. get_or (run_map (at_server_lem i) ks j).tests n 𝟘)
