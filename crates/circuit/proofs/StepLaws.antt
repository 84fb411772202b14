-- The reading of steps by a place. What is known at a place: the steps before it, their counts, and that the reading goes
-- on there. Each law takes one turn of the reader: the end, a refusal, or one step more. Assumes nothing.
use mathlib.Core.Path.{◌≡◌, refl, ap, ◌∙◌}
use mathlib.Core.Logic.{◌⊎◌, ⊎_elim}
use mathlib.Core.Bool.{Bool, true, false, cond, ◌&&◌}
use mathlib.Core.List.{List, [], ◌∷◌, ◌++◌}
use mathlib.Core.Option.{some, none}
use Prim.Native.Nat.{ℕ, ◌+◌, ◌-◌, ◌≤◌, ◌<◌}
use native.Mathlib.Omega.{arith}
use borrow.Author.Tests.{le-leb, lt-leb, eq-eqb, ne_eqb}
use lib.Dec.{leb}
use lib.ListN.{length, get_or, drop}
use lib.Seq.{take_all}
use Rattle.algebra.specs.Lists.{sum_over}
use Rattle.algebra.proofs.Rearrangement.{sum_append}
use Rattle.words.specs.Bytes.{value_of, part}
use Rattle.records.specs.Outcome.{Outcome, ok, refused}
use Rattle.records.specs.Records.{read, read_from}
use Rattle.records.proofs.Records.{at_end, unknown_kind, cut_body, judged_refused, judged_ok}
use Rattle.rules.specs.Settings.{document01}
use Rattle.rules.specs.Columns.{within}
use Rattle.rules.specs.Circuit.{Step}
use Rattle.rules.specs.CircuitReader.{body_lengths, step_body, step_of, step_wires, step_gates, step_tests, step_fault, judged_step}
use Rattle.rules.specs.CircuitReader.{judge_step, step_format, circuit_limits, limited_circuit}
use Rattle.rules.proofs.Circuits.Limits.{within_is}
use Rattle.circuit.specs.declared.Counts.{Counts}
use Rattle.circuit.specs.declared.StepKind.{StepKind}
use Rattle.circuit.specs.declared.StepKind.TheVariants as kind
use Rattle.circuit.specs.Reading.{code_of, counts_of, counted, reading_in, limited_counts}

-- a body is read whole
pub whole_body : (n : ℕ) (b : List ℕ) → length b ≡ n → value_of (part 0 n b) ≡ value_of b
whole_body n b h = ap value_of (take_all n b (omega arith))

-- ---- kinds
unknown_low : (k : ℕ) → k < 1 → step_body document01 k ≡ none
unfolding step_body
unknown_low k h = simp (lt-leb 1 k h)

unknown_high : (k : ℕ) → 6 < k → step_body document01 k ≡ none
unfolding step_body
unknown_high k h =
    let lo : 1 ≤ k = omega arith in
    simp (le-leb 1 k lo, lt-leb k 6 h)

pub code_low : (k : StepKind) → 1 ≤ code_of k
code_low kind.Constant = omega arith
code_low kind.Entry = omega arith
code_low kind.Add = omega arith
code_low kind.Scale = omega arith
code_low kind.Multiply = omega arith
code_low kind.Test = omega arith

pub code_high : (k : StepKind) → code_of k ≤ 6
code_high kind.Constant = omega arith
code_high kind.Entry = omega arith
code_high kind.Add = omega arith
code_high kind.Scale = omega arith
code_high kind.Multiply = omega arith
code_high kind.Test = omega arith

known_kind : (b n : ℕ) (k : StepKind) → b ≡ code_of k → n ≡ get_or (body_lengths document01) (code_of k - 1) 0
    → step_body document01 b ≡ some n
unfolding step_body
known_kind b n k e t = rw (e, within_is 1 6 (code_of k) (code_low k) (code_high k), t)

-- what a step of a kind counts
record KindCounts (k : StepKind) (a : Step) : Type 0 where
  wires_more : (c : Counts) → (counted k c).wires ≡ c.wires + step_wires a
  multiplications_more : (c : Counts) → (counted k c).multiplications ≡ c.multiplications + step_gates a
  tests_more : (c : Counts) → (counted k c).tests ≡ c.tests + step_tests a
  one_each : step_wires a + step_tests a ≡ 1
  few_gates : step_gates a ≤ 1

kind_counts : (k : StepKind) (b : List ℕ) → KindCounts k (step_of document01 (code_of k) b)
unfolding step_of step_wires step_gates step_tests
kind_counts kind.Constant b = search arith
kind_counts kind.Entry b = search arith
kind_counts kind.Add b = search arith
kind_counts kind.Scale b = search arith
kind_counts kind.Multiply b = search arith
kind_counts kind.Test b = search arith

pub same_counts : (c d : Counts) → c.wires ≡ d.wires → c.multiplications ≡ d.multiplications → c.tests ≡ d.tests → c ≡ d
same_counts c d w m t = λ i. record { wires = w i; multiplications = m i; tests = t i }

counts_more : (ks : List Step) (k : StepKind) (b : List ℕ)
    → counted k (counts_of ks) ≡ counts_of (ks ++ (step_of document01 (code_of k) b ∷ []))
unfolding sum_over
counts_more ks k b =
    let a = step_of document01 (code_of k) b in
    let c = counts_of ks in
    let q = kind_counts k b in
    same_counts (counted k c) (counts_of (ks ++ (a ∷ [])))
    (omega (arith, q.wires_more c, sum_append step_wires ks (a ∷ [])))
    (omega (arith, q.multiplications_more c, sum_append step_gates ks (a ∷ [])))
    (omega (arith, q.tests_more c, sum_append step_tests ks (a ∷ [])))

-- the total limits, of the steps and of their counts
limits_are : (ks : List Step) → reading_in (circuit_limits ks) ≡ limited_counts (counts_of ks)
unfolding reading_in circuit_limits
limits_are ks =
    by_test
    (leb (sum_over step_wires ks) 2048 && (within 1 256 (sum_over step_gates ks) && within 1 512 (sum_over step_tests ks)))
  where
    by_test : (b : Bool) → reading_in (cond b (ok ks) (refused 2)) ≡ cond b (ok (counts_of ks)) (refused 2)
    by_test true = refl
    by_test false = refl

-- ---- the reader at a place
module _ (entries : ℕ) (s : List ℕ) where
  pub record ReadTo (at : ℕ) (c : Counts) : Type 0 where
    pub inside : at ≤ length s
    pub few : c.wires + c.tests ≤ at
    pub few_multiplications : c.multiplications ≤ at
    pub done : List Step
    pub counts_are : c ≡ counts_of done
    pub rest : read (step_format document01 entries) s ≡ read_from (step_format document01 entries) (drop at s) 0 done

  abbrev pub whole : Outcome Counts
  whole = reading_in (limited_circuit (read (step_format document01 entries) s))

  pub read_start : ReadTo 0 (record { wires = 0; multiplications = 0; tests = 0 })
  unfolding sum_over
  read_start =
      record { inside = omega arith; few = omega arith; few_multiplications = omega arith; done = []; counts_are = refl; rest = refl }

  module _ {at : ℕ} {c : Counts} (r : ReadTo at c) where
    refuse : (n : ℕ) → read_from (step_format document01 entries) (drop at s) 0 r.done ≡ refused n → whole ≡ refused n
    unfolding reading_in limited_circuit
    refuse n e = rw (r.rest ∙ e)

    pub read_end : length s ≤ at → whole ≡ limited_counts c
    unfolding limited_circuit
    read_end h = rw (r.rest ∙ at_end (step_format document01 entries) s at r.done h, r.counts_are) (limits_are r.done)

    module _ (h : at < length s) where
      pub refuse_kind : (get_or s at 0 < 1) ⊎ (6 < get_or s at 0) → whole ≡ refused 1
      refuse_kind o =
          let k = get_or s at 0 in
          refuse 1 (unknown_kind (step_format document01 entries) s at r.done h (⊎_elim (unknown_low k) (unknown_high k) o))

      module _ (k : StepKind) (is : get_or s at 0 ≡ code_of k) (n : ℕ) (table : n ≡ get_or (body_lengths document01) (code_of k - 1) 0) where
        known : step_body document01 (get_or s at 0) ≡ some n
        known = known_kind (get_or s at 0) n k is table

        pub refuse_cut : length s - (at + 1) < n → whole ≡ refused 1
        refuse_cut l = refuse 1 (cut_body (step_format document01 entries) s at r.done n h known l)

        module _
            (l : n ≤ length s - (at + 1)) (f : ℕ)
            (fault : f ≡ step_fault document01 entries c.wires (step_of document01 (code_of k) (part (at + 1) n s)))
          where
            abbrev a : Step
            a = step_of document01 (get_or s at 0) (part (at + 1) n s)

            fault_is : f ≡ step_fault document01 entries (sum_over step_wires r.done) a
            fault_is =
                let w : c.wires ≡ sum_over step_wires r.done = ap (λ (x : Counts). x.wires) r.counts_are in
                rw (← w, is) fault

            pub refuse_step : (f ≡ 0 → ⊥) → whole ≡ refused f
            unfolding judge_step judged_step
            refuse_step z =
                refuse f (judged_refused (step_format document01 entries) s at r.done n h known f l (rw (← fault_is, ne_eqb f 0 z)))

            pub read_next : f ≡ 0 → ReadTo (at + 1 + n) (counted k c)
            unfolding judge_step judged_step
            read_next e =
                let q = kind_counts k (part (at + 1) n s) in record {
                  inside = omega arith;
                  few = omega (arith, q.wires_more c, q.tests_more c, q.one_each);
                  few_multiplications = omega (arith, q.multiplications_more c, q.few_gates);
                  done = r.done ++ (a ∷ []);
                  counts_are = rw (r.counts_are, is) (counts_more r.done k (part (at + 1) n s));
                  rest =
                      r.rest
                      ∙ judged_ok (step_format document01 entries) s at r.done n h known a l
                      (rw (← fault_is, eq-eqb f 0 e));
                }
