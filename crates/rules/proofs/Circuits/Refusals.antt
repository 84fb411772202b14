-- The refusals of reading: a number that is refused comes from an unknown kind, a cut body or the judge of a record. So a
-- sheet is refused 1 or 2 and a circuit 1, 2 or 3, and where there is no fault each is read. Assumes nothing.
use mathlib.Core.Path.{◌≡◌, refl, subst, ap, ◌∙◌}
use mathlib.Core.Logic.{◌⊎◌, inl, inr, ⊎_elim}
use mathlib.Core.Bool.{Bool, true, false, cond, ◌&&◌}
use mathlib.Core.List.{List, [], ◌∷◌, ◌++◌}
use mathlib.Core.Option.{Option, some, none}
use Prim.Native.Nat.{ℕ, zero, suc, ◌≤◌}
use native.Mathlib.Omega.{arith}
use borrow.Author.Tests.{eqb-false}
use lib.Dec.{leb, ltb, eqb}
use lib.ListN.{length, take}
use Rattle.algebra.specs.Lists.{sum_over}
use Rattle.records.specs.Outcome.{Outcome, ok, refused, or_else}
use Rattle.records.proofs.Outcome.{or_none, or_first}
use Rattle.records.specs.Records.{Format, and_on, one_record, read_from, read}
use Rattle.rules.specs.Columns.{Column, within, column_format, entries_in}
use Rattle.rules.specs.Columns.{sheet_limits, limited_sheet, read_sheet, fault_in, list_in, sheet_fault, columns_of, check}
use Rattle.rules.specs.Settings.{Setting}
use Rattle.rules.specs.Circuit.{Step, constant, entry, add, scale, multiply, test}
use Rattle.rules.specs.CircuitReader.{step_of, step_wires, step_gates, step_tests, step_fault, judged_step, judge_step}
use Rattle.rules.specs.CircuitReader.{step_format, circuit_limits, limited_circuit, read_circuit}
use Rattle.rules.proofs.Circuits.Limits.{Limits, limits, column_refused}

module _ {A : Type 0} where
  not_refused : {a : A} {n : ℕ} → ◌≡◌ {A = Outcome A} (ok a) (refused n) → ⊥
  not_refused h = let z : ◌≡◌ {A = ℕ} 0 1 = cc in omega arith

-- a limit that is broken is refused 2
limits_refused : {A : Type 0} (a : A) (b : Bool) (n : ℕ) → cond b (ok a) (refused 2) ≡ refused n → n ≡ 2
limits_refused a true n h = absurd (not_refused h)
limits_refused a false n h = cc

-- what holds of the refusal of a kind or a cut, and of each refusal of the judge, holds of the refusal of a run
module _
    {A : Type 0} (f : Format A) (P : ℕ → Type 0) (at-fault : P f.at_fault)
    (by-judge : (done : List A) (k : ℕ) (body : List ℕ) (n : ℕ) → f.judge done k body ≡ refused n → P n)
  where
    refused_from : (s : List ℕ) (j : ℕ) (done : List A) (n : ℕ) → read_from f s j done ≡ refused n → P n
    unfolding read_from
    refused_from [] j done n h = absurd (not_refused h)
    refused_from (b ∷ s) (suc j) done n h = refused_from s j done n h
    refused_from (k ∷ s) zero done n h = known (f.body_of k) (λ j d. refused_from s j d n) h
      where
        Rest : Type 0
        Rest = (j : ℕ) (d : List A) → read_from f s j d ≡ refused n → P n

        judged : (m : ℕ) → Rest → (r : Outcome A) → f.judge done k (take m s) ≡ r
            → and_on r done (read_from f s m) ≡ refused n → P n
        judged m rest (ok a) q g = rest m (done ++ (a ∷ [])) g
        judged m rest (refused l) q g = let e : l ≡ n = cc in by-judge done k (take m s) n (q ∙ ap refused e)

        whole : (m : ℕ) → Rest → (b : Bool)
            → cond b (and_on (f.judge done k (take m s)) done (read_from f s m)) (refused f.at_fault) ≡ refused n → P n
        whole m rest true g = judged m rest (f.judge done k (take m s)) refl g
        whole m rest false g = let e : f.at_fault ≡ n = cc in subst P e at-fault

        known : (o : Option ℕ) → Rest → one_record f o done k s (read_from f s) ≡ refused n → P n
        known none rest g = let e : f.at_fault ≡ n = cc in subst P e at-fault
        known (some m) rest g = whole m rest (leb m (length s)) g

    pub refused_by_lem : (s : List ℕ) (n : ℕ) → read f s ≡ refused n → P n
    refused_by_lem s n h = refused_from s 0 [] n h

-- ---- a sheet
abbrev OneOrTwo : ℕ → Type 0
OneOrTwo n = (n ≡ 1) ⊎ (n ≡ 2)

pub sheet_refusals : (s : List ℕ) (n : ℕ) → read_sheet s ≡ refused n → (n ≡ 1) ⊎ (n ≡ 2)
unfolding read_sheet limited_sheet sheet_limits
sheet_refusals s n h = outcome (read column_format s) refl h
  where
    outcome : (r : Outcome (List Column)) → read column_format s ≡ r → limited_sheet r ≡ refused n → OneOrTwo n
    outcome (ok cs) q g = inr (limits_refused cs (within 1 256 (entries_in cs)) n g)
    outcome (refused m) q g =
        refused_by_lem column_format OneOrTwo (inl refl) (λ done k body l h. inr (column_refused k body l h)) s n
        (let e : m ≡ n = cc in q ∙ ap refused e)

-- a sheet without a fault is read as its columns, and a sheet that is read has no fault
pub sheet_read : (s : List ℕ) → sheet_fault s ≡ 0 → read_sheet s ≡ ok (columns_of s)
unfolding fault_in list_in
sheet_read s h = outcome (read_sheet s) refl h
  where
    outcome : (r : Outcome (List Column)) → read_sheet s ≡ r → fault_in r ≡ 0 → r ≡ ok (list_in r)
    outcome (ok cs) q g = refl
    outcome (refused n) q g = absurd (⊎_elim (λ e. omega arith) (λ e. omega arith) (sheet_refusals s n q))

pub sheet_limits_lem : (s : List ℕ) → sheet_fault s ≡ 0 → Limits s (columns_of s)
sheet_limits_lem s h = limits s (columns_of s) (sheet_read s h)

pub sheet_fault_lem : (s : List ℕ) (cs : List Column) → read_sheet s ≡ ok cs → (sheet_fault s ≡ 0) × (columns_of s ≡ cs)
unfolding fault_in list_in
sheet_fault_lem s cs h = (ap fault_in h, ap list_in h)

-- ---- a circuit
abbrev OneToThree : ℕ → Type 0
OneToThree n = (1 ≤ n) × (n ≤ 3)

module _ (σ : Setting) (l : ℕ) where
  check_most : (b : Bool) (n : ℕ) → check b n ≤ n
  check_most true n = omega arith
  check_most false n = omega arith

  fault_most : (w : ℕ) (k : Step) → step_fault σ l w k ≤ 3
  unfolding step_fault
  fault_most w (constant c) = omega (arith, check_most (ltb c σ.modulus) 2)
  fault_most w (entry e) = check_most (ltb e l) 3
  fault_most w (add a b) = check_most (ltb a w && ltb b w) 3
  fault_most w (scale a c) = either (check (ltb c σ.modulus) 2) (check (ltb a w) 3)
      (omega (arith, check_most (ltb c σ.modulus) 2)) (check_most (ltb a w) 3)
    where
      either : (a b : ℕ) → a ≤ 3 → b ≤ 3 → or_else a b ≤ 3
      either zero b h g = rw or_none g
      either (suc a) b h g = rw (or_first (suc a) b (λ e. omega arith)) h
  fault_most w (multiply a b) = check_most (ltb a w && ltb b w) 3
  fault_most w (test a) = check_most (ltb a w) 3

  judged_refused : (done : List Step) (k : ℕ) (body : List ℕ) (n : ℕ) → judge_step σ l done k body ≡ refused n → OneToThree n
  unfolding judge_step judged_step
  judged_refused done k body n h = by_fault (eqb fault 0) refl h
    where
      fault : ℕ
      fault = step_fault σ l (sum_over step_wires done) (step_of σ k body)

      by_fault : (b : Bool) → eqb fault 0 ≡ b → cond b (ok (step_of σ k body)) (refused fault) ≡ refused n → OneToThree n
      by_fault true q g = absurd (not_refused g)
      by_fault false q g =
          let e : fault ≡ n = cc in
          let z = eqb-false fault 0 q in
          let most = fault_most (sum_over step_wires done) (step_of σ k body) in
          (omega arith, omega arith)

  pub circuit_refusals : (s : List ℕ) (n : ℕ) → read_circuit σ l s ≡ refused n → (1 ≤ n) × (n ≤ 3)
  unfolding read_circuit limited_circuit circuit_limits
  circuit_refusals s n h = started (within 1 256 l && leb (length s) σ.circuit_limit) h
    where
      outcome : (r : Outcome (List Step)) → read (step_format σ l) s ≡ r → limited_circuit r ≡ refused n → OneToThree n
      outcome (ok ks) q g =
          let e =
          limits_refused ks
          (leb (sum_over step_wires ks) 2048
          && (within 1 256 (sum_over step_gates ks) && within 1 512 (sum_over step_tests ks))) n g
          in
          (omega arith, omega arith)
      outcome (refused m) q g =
          refused_by_lem (step_format σ l) OneToThree (omega arith, omega arith) judged_refused s n
          (let e : m ≡ n = cc in q ∙ ap refused e)

      started : (b : Bool) → cond b (limited_circuit (read (step_format σ l) s)) (refused 2) ≡ refused n → OneToThree n
      started true g = outcome (read (step_format σ l) s) refl g
      started false g = let e : 2 ≡ n = cc in (omega arith, omega arith)
