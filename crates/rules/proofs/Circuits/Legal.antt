-- Tests say legal: a list of numbers below p is valid exactly when it encodes one legal value for each column. In a field
-- column by column along the walk, which is the circuit's run; then the field of residues is read as numbers.
-- Assumes nothing.
use mathlib.Core.Path.{◌≡◌, refl, sym, ◌∙◌, ap, subst}
use mathlib.Core.Logic.{◌↔◌}
use mathlib.Core.Bool.{true, false}
use mathlib.Core.List.{List, [], ◌∷◌, map}
use Prim.Native.Nat.{ℕ, ◌+◌, ◌-◌, ◌<◌}
use native.Mathlib.Nat.{zero-add}
use native.Mathlib.Decide.{dec_lt}
use native.Mathlib.Omega.{arith}
use borrow.Author.Tests.{lt-ltb}
use lib.Dec.{ltb}
use lib.ListN.{get_or}
use Rattle.algebra.specs.Lists.{All, all[], all∷}
use Rattle.algebra.specs.Ops.{Ops, Field}
use Rattle.algebra.specs.Modulo.{modulo}
use Rattle.algebra.proofs.Members.{all_append, all_left, all_right, and-true}
use Rattle.algebra.proofs.Residues.{residues, to_numbers, value_of, of_value, value_zero, minus_one_is}
use Rattle.records.specs.Outcome.{ok}
use Rattle.rules.specs.Settings.{Setting, Facts}
use Rattle.rules.specs.Columns.{Column, entries_of, values_of, entries_in, read_sheet}
use Rattle.rules.specs.Circuit.{gates_of, circuit_of}
use Rattle.rules.specs.Run.{Meaning, run, on_list, Valid}
use Rattle.rules.specs.Walk.{column_tests, walk_tests}
use Rattle.rules.specs.Values.{encoded, legal_values, encoding, Encodes}
use Rattle.rules.proofs.Circuits.Natural.{run_map, list_keeps}
use Rattle.rules.proofs.Circuits.Walk.{walk_is_run}
use Rattle.rules.proofs.Circuits.Limits.{InLimits, limits}
use Rattle.rules.proofs.Circuits.FieldTests.{Known}
use Rattle.rules.proofs.Circuits.ColumnTests.{column_encoded, encoded_column}
use Rattle.rules.proofs.Circuits.Encoding.{not_legal, legal_head, legal_tail, encoding_head, encoding_tail}

-- ---- in a field
module _ (O : Ops) (x : ℕ → O.F) (e : ℕ) (c : Column) (cs : List Column) where
  -- a value of the first column, and the values of the others
  front_encodes : (v : ℕ) → v < values_of c → ((i : ℕ) → i < entries_of c → x (e + i) ≡ O.ι (encoded c v i))
      → Encodes O cs (λ i. x (e + entries_of c + i)) → Encodes O (c ∷ cs) (λ i. x (e + i))
  unfolding legal_values entries_in
  front_encodes v l at q = record {
    values = v ∷ q.values;
    legal = and-true (ltb v (values_of c)) (legal_values cs q.values) (lt-ltb v (values_of c) l) q.legal;
    entries_are = λ i h. entry i h (dec_lt i (entries_of c));
  }
    where
      entry : (i : ℕ) → i < entries_of c + entries_in cs → Dec (i < entries_of c)
          → x (e + i) ≡ O.ι (get_or (encoding (c ∷ cs) (v ∷ q.values)) i 0)
      entry i h (yes k) = at i k ∙ ap O.ι (sym (encoding_head c cs v q.values i k))
      entry i h (no k) =
          let j : ℕ = i - entries_of c in
          let from : e + i ≡ e + entries_of c + j = omega arith in
          let place : i ≡ entries_of c + j = omega arith in
          ap x from ∙ q.entries_are j (omega arith)
          ∙ ap O.ι (sym (ap (λ k. get_or (encoding (c ∷ cs) (v ∷ q.values)) k 0) place ∙ encoding_tail c cs v q.values j))

module _
    (𝓕 : Field) (σ : Setting) (known : Known 𝓕 σ) (x : ℕ → 𝓕.ops.F)
  where
    open 𝓕.ops use {F, 𝟘, ι}

    abbrev μ : Meaning F
    μ = on_list 𝓕.ops x

    abbrev Zeros : List F → Type 0
    Zeros = All (λ y. y ≡ 𝟘)

    walk_encodes : (cs : List Column) → All InLimits cs → (e t : ℕ) → Zeros (walk_tests σ μ e t cs)
        → Encodes 𝓕.ops cs (λ i. x (e + i))
    unfolding walk_tests legal_values entries_in
    walk_encodes [] w e t z = record { values = []; legal = refl; entries_are = λ i l. absurd (omega arith) }
    walk_encodes (c ∷ cs) (all∷ w ws) e t z =
        let rest = walk_tests σ μ (e + entries_of c) (t + gates_of c) cs in
        let r = column_encoded 𝓕 σ known x c w e t (all_left (column_tests σ μ e t c) rest z) in
        front_encodes 𝓕.ops x e c cs r.value r.value_below r.column_is
        (walk_encodes cs ws (e + entries_of c) (t + gates_of c) (all_right (column_tests σ μ e t c) rest z))

    values_walk : (cs : List Column) (vs : List ℕ) → All InLimits cs → legal_values cs vs ≡ true → (e t : ℕ)
        → ((i : ℕ) → i < entries_in cs → x (e + i) ≡ ι (get_or (encoding cs vs) i 0)) → Zeros (walk_tests σ μ e t cs)
    unfolding walk_tests legal_values entries_in
    values_walk [] vs w h e t at = all[]
    values_walk (c ∷ cs) [] w h e t at = absurd (not_legal false refl h)
    values_walk (c ∷ cs) (v ∷ vs) (all∷ w ws) h e t at =
        all_append
        (encoded_column 𝓕 σ known x c w e t
        (record { value = v; value_below = legal_head c cs v vs h; column_is = here }))
        (values_walk cs vs ws (legal_tail c cs v vs h) (e + entries_of c) (t + gates_of c) there)
      where
        here : (i : ℕ) → i < entries_of c → x (e + i) ≡ ι (encoded c v i)
        here i l = at i (omega arith) ∙ ap ι (encoding_head c cs v vs i l)

        there : (i : ℕ) → i < entries_in cs → x (e + entries_of c + i) ≡ ι (get_or (encoding cs vs) i 0)
        there i l =
            let from : e + entries_of c + i ≡ e + (entries_of c + i) = omega arith in
            ap x from ∙ at (entries_of c + i) (omega arith) ∙ ap ι (encoding_tail c cs v vs i)

    pub field_says_legal : (cs : List Column) → All InLimits cs → Valid 𝓕.ops σ cs x ↔ Encodes 𝓕.ops cs x
    field_says_legal cs w = (to, from)
      where
        to : Valid 𝓕.ops σ cs x → Encodes 𝓕.ops cs x
        to z =
            let r = walk_encodes cs w 0 0 (subst Zeros (walk_is_run σ μ cs).tests_are z) in
            record {
              values = r.values;
              legal = r.legal;
              entries_are = λ i l. ap x (sym (zero-add i)) ∙ r.entries_are i l;
            }

        from : Encodes 𝓕.ops cs x → Valid 𝓕.ops σ cs x
        from r =
            subst Zeros (sym (walk_is_run σ μ cs).tests_are)
            (values_walk cs r.values w r.legal 0 0 (λ i l. ap x (zero-add i) ∙ r.entries_are i l))

-- ---- at numbers below p
module _ (σ : Setting) (facts : Facts σ) where
  abbrev p : ℕ
  p = σ.modulus

  abbrev 𝓡 : Field
  𝓡 = residues p facts.prime

  abbrev R : Ops
  R = 𝓡.ops

  abbrev value : R.F → ℕ
  value = (to_numbers p facts.prime).φ

  few_same : (a b : ℕ) → a < 33554432 → b < 33554432 → R.ι a ≡ R.ι b → a ≡ b
  few_same a b h k e =
      sym (value_of p facts.prime a (omega (arith, facts.large))) ∙ ap value e
      ∙ value_of p facts.prime b (omega (arith, facts.large))

  zeros_down : {l : List R.F} → All (λ y. y ≡ R.𝟘) l → All (λ y. y ≡ 0) (map value l)
  zeros_down all[] = all[]
  zeros_down (all∷ e es) = all∷ (ap value e ∙ (to_numbers p facts.prime).nil) (zeros_down es)

  zeros_up : (l : List R.F) → All (λ y. y ≡ 0) (map value l) → All (λ y. y ≡ R.𝟘) l
  zeros_up [] all[] = all[]
  zeros_up (y ∷ l) (all∷ e es) = all∷ (value_zero p facts.prime y e) (zeros_up l es)

  module _ (cs : List Column) (x : ℕ → ℕ) (low : (i : ℕ) → x i < σ.modulus) where
    -- the elements that the entries leave
    abbrev lifted : ℕ → R.F
    lifted i = R.ι (x i)

    lifted_value : (i : ℕ) → value (lifted i) ≡ x i
    lifted_value i = value_of p facts.prime (x i) (low i)

    tests_value : map value (run (on_list R lifted) (circuit_of σ cs)).tests
        ≡ (run (on_list (modulo p) x) (circuit_of σ cs)).tests
    tests_value =
        ap (λ t. t.tests) (run_map (list_keeps (to_numbers p facts.prime) lifted) (circuit_of σ cs))
        ∙ λ j. (run (on_list (modulo p) (λ i. lifted_value i j)) (circuit_of σ cs)).tests

    pub valid_lifts : Valid (modulo σ.modulus) σ cs x ↔ Valid R σ cs lifted
    valid_lifts = (
      λ z. zeros_up (run (on_list R lifted) (circuit_of σ cs)).tests (subst (All (λ y. y ≡ 0)) (sym tests_value) z),
      λ z. subst (All (λ y. y ≡ 0)) tests_value (zeros_down z),
    )

    pub encodes_lifts : Encodes (modulo σ.modulus) cs x ↔ Encodes R cs lifted
    encodes_lifts = (
      λ r. record {
        values = r.values;
        legal = r.legal;
        entries_are = λ i l. ap R.ι (r.entries_are i l ∙ sym (left r.values i)) ∙ of_value p facts.prime _;
      },
      λ r. record {
        values = r.values;
        legal = r.legal;
        entries_are = λ i l. sym (lifted_value i) ∙ ap value (r.entries_are i l) ∙ left r.values i;
      },
    )
      where
        left : (vs : List ℕ) (i : ℕ) → value (R.ι (get_or (encoding cs vs) i 0)) ≡ (modulo p).ι (get_or (encoding cs vs) i 0)
        left vs i = (to_numbers p facts.prime).num (get_or (encoding cs vs) i 0)

    pub tests_say_legal : All InLimits cs → Valid (modulo σ.modulus) σ cs x ↔ Encodes (modulo σ.modulus) cs x
    tests_say_legal w =
        (λ z. encodes_lifts.1 (says.0 (valid_lifts.0 z)), λ r. valid_lifts.1 (says.1 (encodes_lifts.0 r)))
      where
        says : Valid R σ cs lifted ↔ Encodes R cs lifted
        says =
            field_says_legal 𝓡 σ
            (record { large = facts.large; minus_one_lem = minus_one_is p facts.prime; small = few_same }) lifted cs w

    -- from a sheet's bytes
    pub sheet_tests_say_legal : (s : List ℕ) → read_sheet s ≡ ok cs
        → Valid (modulo σ.modulus) σ cs x ↔ Encodes (modulo σ.modulus) cs x
    sheet_tests_say_legal s h = tests_say_legal (limits s cs h).in_limits
