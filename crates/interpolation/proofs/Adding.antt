-- Fractions modulo the prime add up in any grouping, as in the field of residues, and one more term is one more step of
-- the numerator and of the product. Assumes nothing.
use mathlib.Core.Path.{◌≡◌, refl, sym, ◌∙◌, ap, ap₂}
use mathlib.Core.List.{List}
use Prim.Native.Nat.{ℕ, suc, ◌+◌, ◌<◌}
use native.Mathlib.Nat.{mod-lt}
use native.Mathlib.Omega.{arith}
use lib.Dec.{lit<}
use Rattle.algebra.specs.Ops.{minus}
use Rattle.algebra.specs.Sums.{product}
use Rattle.algebra.specs.Interpolation.{numerator}
use Rattle.algebra.proofs.Ring.{mul_assoc}
use Rattle.algebra.proofs.Fractions.{id_two}
use Rattle.field.specs.Residues.{prime, residues}
use Rattle.interpolation.specs.declared.Fraction.{Fraction}
use Rattle.interpolation.specs.Fractions.{Element, plus_of, term_at, sum_of}
use Rattle.quotients.proofs.Numbers.{𝓕}
use Rattle.interpolation.proofs.Identities.{lift, times, add, same}

infixl 65 ◌⊕◌
infixl 70 ◌⊗◌
abbrev ◌⊕◌ : ℕ → ℕ → ℕ
◌⊕◌ = residues.◌⊕◌

abbrev ◌⊗◌ : ℕ → ℕ → ℕ
◌⊗◌ = residues.◌⊗◌

-- two equal parts
pub parts : {a a' b b' : ℕ} → a ≡ a' → b ≡ b'
    → ◌≡◌ {A = Fraction} (record { over = a; under = b }) (record { over = a'; under = b' })
parts p q = λ i. record { over = p i; under = q i }

-- a sum of elements
pub sum_element : (a b : Fraction) {q : Fraction} → q ≡ plus_of a b → Element q
sum_element a b e = rw e (record { over_below = mod-lt _ (lit< tt); under_below = mod-lt _ (lit< tt) })

-- ---- grouping
pub plus_grouped : (a b c : Fraction) → Element a → Element b → Element c
    → plus_of a (plus_of b c) ≡ plus_of (plus_of a b) c
plus_grouped a b c x y z =
    let s = lift x.over_below in
    let p = lift x.under_below in
    let t = lift y.over_below in
    let d = lift y.under_below in
    let u = lift z.over_below in
    let e = lift z.under_below in
    parts
    (same (add (times s (times d e)) (times (add (times t e) (times u d)) p)) (sym (id_two 𝓕 _ _ _ _ _ _))
    (add (times (add (times s d) (times t p)) e) (times u (times p d))))
    (same (times p (times d e)) (sym (mul_assoc 𝓕 _ _ _)) (times (times p d) e))

-- ---- one more term
module _ (y weights : List ℕ) (s r : ℕ) where
  -- the fraction of term i
  abbrev pub fraction : ℕ → Fraction
  fraction i = record { over = term_at y weights i; under = minus residues r (s + i) }

  pub none : record { over = 0; under = 1 } ≡ sum_of y weights s r 0
  unfolding numerator product
  none = refl

  pub one_more_lem : (i : ℕ) → s + i < prime → plus_of (sum_of y weights s r i) (fraction i) ≡ sum_of y weights s r (suc i)
  unfolding numerator product
  one_more_lem i h =
      let image : s + i ≡ residues.ι (s + i) = omega arith in
      ap
      (λ k. plus_of (sum_of y weights s r i) (record { over = term_at y weights i; under = minus residues r k }))
      image

  pub two_more : (i : ℕ) → suc (s + i) < prime → Element (sum_of y weights s r i) → Element (fraction i)
      → Element (fraction (i + 1))
      → plus_of (sum_of y weights s r i) (plus_of (fraction i) (fraction (i + 1))) ≡ sum_of y weights s r (i + 2)
  two_more i h a b c =
      let one : i + 1 ≡ suc i = omega arith in
      let two : suc (suc i) ≡ i + 2 = omega arith in
      plus_grouped _ _ _ a b c
      ∙ ap₂ (λ (f : Fraction) (k : ℕ). plus_of f (fraction k)) (one_more_lem i (omega arith)) one
      ∙ one_more_lem (suc i) (omega arith)
      ∙ ap (sum_of y weights s r) two
