-- Where two sums are equal, and all terms but one, that one is too: the differences add up to the one that may not be 0. In a field,
-- and for numbers below p with sums modulo p. Assumes nothing.
use mathlib.Core.Path.{◌≡◌, refl, sym, ◌∙◌, ap, ap₂}
use mathlib.Core.Logic.{◌≢◌}
use mathlib.Core.Bool.{cond}
use Prim.Native.Nat.{ℕ, zero, suc, ◌+◌, ◌%◌, ◌<◌}
use native.Mathlib.Decide.{ℕ_discrete}
use native.Mathlib.Omega.{arith}
use borrow.Author.Tests.{eq-eqb, ne_eqb}
use lib.Dec.{eqb}
use Rattle.algebra.specs.Ops.{Field}
use Rattle.algebra.specs.Modulo.{modulo}
use Rattle.algebra.specs.Sums.{sum}
use Rattle.algebra.proofs.Ring.{add-zero, add_neg, sub_zero, ι_add}
use Rattle.algebra.proofs.Sums.{sum_ext, sum_one, sum_add, sum_neg}
use Rattle.algebra.proofs.Homs.{sum_hom}
use Rattle.algebra.proofs.Residues.{to_numbers, value_of, of_value}
use Rattle.rules.specs.Settings.{Setting, Facts}
use Rattle.rules.proofs.Returns.Elements.{field, R, value}

module _ (𝓕 : Field) (m j : ℕ) (is-term : j < m) where
  open 𝓕.ops use {F, ◌⊕◌, neg, 𝟘}

  infixl 65 ◌⊕◌
  abbrev Σ : (ℕ → F) → F
  Σ = sum 𝓕.ops m

  pub but_one : (x y : ℕ → F) → ((i : ℕ) → i < m → i ≢ j → x i ≡ y i) → Σ x ≡ Σ y → x j ≡ y j
  but_one x y same sums =
      sub_zero 𝓕
      (sym (sum_one 𝓕 m (λ i. x i ⊕ neg (y i)) j is-term none)
      ∙ sum_add 𝓕 m x (λ i. neg (y i))
      ∙ ap₂ ◌⊕◌ sums (sum_neg 𝓕 m y)
      ∙ add_neg 𝓕 (Σ y))
    where
      none : (i : ℕ) → i < m → i ≢ j → x i ⊕ neg (y i) ≡ 𝟘
      none i l ne = ap (◌⊕ neg (y i)) (same i l ne) ∙ add_neg 𝓕 (y i)

-- Shares x and y that add up to sums that differ by c. Term j takes the difference, where it is not term 0, and the others from 1 on are
-- the same: then so is term 0, which is the rest
module _ (𝓕 : Field) (m : ℕ) (x y : ℕ → 𝓕.ops.F) (c : 𝓕.ops.F) (j : ℕ) (is-term : j < m) where
  open 𝓕.ops use {F, ◌⊕◌, 𝟘}

  infixl 65 ◌⊕◌
  taken : ℕ → F
  taken i = cond (eqb i j) c 𝟘

  taken_at : (i : ℕ) → i ≡ j → taken i ≡ c
  unfolding taken
  taken_at i e = rw (eq-eqb i j e)

  taken_off : (i : ℕ) → i ≢ j → taken i ≡ 𝟘
  unfolding taken
  taken_off i ne = rw (ne_eqb i j ne)

  module _ (same : (i : ℕ) → suc i < m → suc i ≢ j → x (suc i) ≡ y (suc i))
      (takes : (i : ℕ) → suc i ≡ j → y (suc i) ≡ x (suc i) ⊕ c) (differ : sum 𝓕.ops m y ≡ sum 𝓕.ops m x ⊕ c) where
    with_taken : sum 𝓕.ops m (λ i. x i ⊕ taken i) ≡ sum 𝓕.ops m y
    with_taken =
        sum_add 𝓕 m x taken
        ∙ ap (sum 𝓕.ops m x ⊕◌) (sum_one 𝓕 m taken j is-term (λ i l ne. taken_off i ne) ∙ taken_at j refl)
        ∙ sym differ

    later : (i : ℕ) → i < m → i ≢ 0 → x i ⊕ taken i ≡ y i
    later zero l ne = absurd (ne refl)
    later (suc i) l ne = go (ℕ_discrete (suc i) j)
      where
        go : Dec (suc i ≡ j) → x (suc i) ⊕ taken (suc i) ≡ y (suc i)
        go (yes e) = ap (x (suc i) ⊕◌) (taken_at (suc i) e) ∙ sym (takes i e)
        go (no d) = ap (x (suc i) ⊕◌) (taken_off (suc i) d) ∙ add-zero 𝓕 (x (suc i)) ∙ same i l d

    pub rest_same : (i : ℕ) → i < m → i ≢ j → x i ≡ y i
    rest_same zero l ne =
        sym (add-zero 𝓕 (x 0))
        ∙ ap (x 0 ⊕◌) (sym (taken_off 0 ne))
        ∙ but_one 𝓕 m 0 (omega arith) (λ i. x i ⊕ taken i) y later with_taken
    rest_same (suc i) l ne = same i l ne

-- numbers below p
module _ (σ : Setting) (facts : Facts σ) where
  abbrev p : ℕ
  p = σ.modulus

  abbrev pub ι : ℕ → (R σ facts).F
  ι = (R σ facts).ι

  back : (n : ℕ) → n < p → value σ facts (ι n) ≡ n
  back = value_of p facts.prime

  -- numbers below p with one element are one number
  pub one_number : (m n : ℕ) → m < p → n < p → ι m ≡ ι n → m ≡ n
  one_number m n k l e = sym (back m k) ∙ ap (value σ facts) e ∙ back n l

  -- the element of a number that is moved modulo p by the value of an element
  pub of_moved : (n : ℕ) (x : (R σ facts).F) → ι ((n + value σ facts x) % p) ≡ (R σ facts).◌⊕◌ (ι n) x
  of_moved n x =
      ap ι (sym ((to_numbers p facts.prime).num (n + value σ facts x)))
      ∙ of_value p facts.prime (ι (n + value σ facts x))
      ∙ ι_add (field σ facts) n (value σ facts x)
      ∙ ap ((R σ facts).◌⊕◌ (ι n)) (of_value p facts.prime x)

  of_sum : (m : ℕ) (f : ℕ → ℕ) → ((i : ℕ) → f i < p) → sum (R σ facts) m (λ i. ι (f i)) ≡ ι (sum (modulo p) m f)
  of_sum m f below =
      sym (of_value p facts.prime _)
      ∙ ap ι (sum_hom (to_numbers p facts.prime) m (λ i. ι (f i)) ∙ sum_ext (modulo p) m _ _ (λ i l. back (f i) (below i)))

  pub all_same : (m j : ℕ) → j < m → (f g : ℕ → ℕ) → ((i : ℕ) → f i < p) → ((i : ℕ) → g i < p)
      → ((i : ℕ) → i < m → i ≢ j → f i ≡ g i) → sum (modulo p) m f ≡ sum (modulo p) m g → (i : ℕ) → i < m → f i ≡ g i
  all_same m j is-term f g f-below g-below same sums i l = go (ℕ_discrete i j)
    where
      one : f j ≡ g j
      one =
          one_number (f j) (g j) (f-below j) (g-below j)
          (but_one (field σ facts) m j is-term (λ i. ι (f i)) (λ i. ι (g i)) (λ i l ne. ap ι (same i l ne))
          (of_sum m f f-below ∙ ap ι sums ∙ sym (of_sum m g g-below)))

      go : Dec (i ≡ j) → f i ≡ g i
      go (yes e) = ap f e ∙ one ∙ ap g (sym e)
      go (no ne) = same i l ne
