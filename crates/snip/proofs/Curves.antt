-- f and g at r from the sum of the left inputs over r - 1, r - 2, ..: the point 0 is one fraction more, and g is f, corrected.
-- The polynomial of the extras has no such fraction, for it is 0 at 0. Assumes nothing.
use mathlib.Core.Path.{◌≡◌, refl, sym, ap, ap₂, ◌∙◌}
use mathlib.Core.List.{List}
use Prim.Native.Nat.{ℕ, zero, suc, ◌<◌}
use native.Mathlib.Nat.{mod-lt}
use lib.Dec.{lit<}
use lib.ListN.{get_or}
use Rattle.algebra.specs.Ops.{Field, minus}
use Rattle.algebra.specs.Interpolation.{ascending, weight, basis, interpolate}
use Rattle.algebra.proofs.Ring.{ring}
use Rattle.algebra.proofs.Fractions.{numerator_ext}
use Rattle.field.specs.Residues.{prime, residues, Elements}
use Rattle.field.proofs.Below.{member_below, product_below}
use Rattle.quotients.proofs.Numbers.{𝓕, values, weight_below}
use Rattle.interpolation.specs.Fractions.{sum_of}
use Rattle.interpolation.proofs.Identities.{Value, lift, times, add, less, same}
use Rattle.interpolation.proofs.Through.{interpolate_numerator, first_apart, basis_first}
use Rattle.rules.specs.Judging.{zero_then}
use Rattle.snip.specs.declared.judging.Inputs.{Inputs}
use Rattle.snip.specs.Judged.{inputs_from}

module _ (𝓖 : Field) where
  open 𝓖.ops use {F, ◌⊕◌, ◌⊗◌, neg, 𝟘}

  infixl 65 ◌⊕◌
  infixl 70 ◌⊗◌
  id_first : (y w p s : F) → y ⊗ w ⊗ p ⊕ s ≡ w ⊗ p ⊗ y ⊕ s
  id_first y w p s = simp ring

  id_shifted : (b f r g c x : F) → b ⊗ f ⊕ r ⊕ (c ⊕ (g ⊕ neg f ⊕ neg c) ⊗ b) ⊕ x ≡ b ⊗ (g ⊕ neg c) ⊕ (r ⊕ c) ⊕ x
  id_shifted b f r g c x = simp ring

  id_nothing : (b s : F) → b ⊗ 𝟘 ⊕ s ≡ s
  id_nothing b s = simp ring

-- values with the first one apart are elements
zero_then_below : (z : ℕ) (ls : List ℕ) (j : ℕ) → z < prime → Elements ls → zero_then residues z ls j < prime
unfolding zero_then
zero_then_below z ls zero h e = h
zero_then_below z ls (suc j) h e = member_below ls j e

zero_then_first : (z : ℕ) (ls : List ℕ) → zero_then residues z ls 0 ≡ z
unfolding zero_then
zero_then_first z ls = refl

zero_then_next : (z : ℕ) (ls : List ℕ) (j : ℕ) → zero_then residues z ls (suc j) ≡ get_or ls j 0
unfolding zero_then
zero_then_next z ls j = refl

pub inputs : {f f' g g' : ℕ} → f ≡ f' → g ≡ g'
    → ◌≡◌ {A = Inputs} (record { f = f; g = g }) (record { f = f'; g = g' })
inputs p q = λ i. record { f = p i; g = q i }

-- m multiplications; the weights ws of the points 1, .., m and w of the point 0
module _ (m r w : ℕ) (ws : List ℕ) (r_below : r < prime) (w-is : w ≡ weight residues m 0)
    (ws-are : (i : ℕ) → i < m → get_or ws i 0 ≡ weight residues m (suc i)) where
  abbrev first : List ℕ → ℕ
  first ls = residues.◌⊗◌ w (sum_of ls ws 1 r m).under

  abbrev rest : List ℕ → ℕ
  rest ls = residues.◌⊗◌ r (sum_of ls ws 1 r m).over

  element : (a b : ℕ) → residues.◌⊗◌ a b < prime
  element a b = mod-lt _ (lit< tt)

  w_below : w < prime
  w_below = rw w-is (weight_below m 0)

  through_at : (z : ℕ) (ls : List ℕ) → z < prime → Elements ls
      → interpolate residues m (zero_then residues z ls) r ≡ residues.◌⊕◌ (residues.◌⊗◌ (first ls) z) (rest ls)
  through_at z ls z-below elements =
      let y = lift z-below in
      let v = lift w_below in
      let p = lift (product_below m _) in
      let s = lift (element r (sum_of ls ws 1 r m).over) in
      interpolate_numerator m r r_below (zero_then residues z ls) (λ j l. zero_then_below z ls j z-below elements)
      ∙ first_apart m r r_below _ (λ j l. element _ _)
      ∙ ap₂ (λ t n. residues.◌⊕◌ (residues.◌⊗◌ t (ascending residues 1 m r)) (residues.◌⊗◌ r n))
      (ap₂ residues.◌⊗◌ (zero_then_first z ls) (sym w-is))
      (numerator_ext residues 1 m r _ _ (λ i l. ap₂ residues.◌⊗◌ (zero_then_next z ls i) (sym (ws-are i l))))
      ∙ same (add (times (times y v) p) s) (id_first 𝓕 _ _ _ _) (add (times (times v p) y) s)

  -- with 0 at the point 0
  pub rest_at : (ks : List ℕ) → Elements ks → rest ks ≡ interpolate residues m (zero_then residues 0 ks) r
  rest_at ks elements =
      let b = lift (element w (sum_of ks ws 1 r m).under) in
      let s = lift (element r (sum_of ks ws 1 r m).over) in
      let none : Value 𝓕.ops.𝟘 0 = record { is = values.nil } in
      sym (through_at 0 ks (lit< tt) elements ∙ same (add (times b none) s) (id_nothing 𝓕 _ _) s)

  module _ (f0 g0 c x : ℕ) (ls : List ℕ) (f0-below : f0 < prime) (g0-below : g0 < prime) (c-below : c < prime)
      (x_below : x < prime) (elements : Elements ls) where
    abbrev f_at : ℕ
    f_at = interpolate residues m (zero_then residues f0 ls) r

    g_at_lem : residues.◌⊕◌
        (residues.◌⊕◌ f_at (residues.◌⊕◌ c (residues.◌⊗◌ (minus residues (minus residues g0 f0) c) (basis residues m 0 r)))) x
        ≡ (inputs_from f0 g0 (first ls) (rest ls) c x).g
    g_at_lem =
        let b = lift (element w (sum_of ls ws 1 r m).under) in
        let f = lift f0-below in
        let g = lift g0-below in
        let k = lift c-below in
        let s = lift (element r (sum_of ls ws 1 r m).over) in
        let e = lift x_below in
        ap₂
        (λ f b. residues.◌⊕◌ (residues.◌⊕◌ f (residues.◌⊕◌ c (residues.◌⊗◌ (minus residues (minus residues g0 f0) c) b))) x)
        (through_at f0 ls f0-below elements)
        (basis_first m r r_below ∙ ap (λ t. residues.◌⊗◌ t (ascending residues 1 m r)) (sym w-is))
        ∙ same (add (add (add (times b f) s) (add k (times (less (less g f) k) b))) e) (id_shifted 𝓕 _ _ _ _ _ _)
        (add (add (times b (less g k)) (add s k)) e)

    pub inputs_are : inputs_from f0 g0 (first ls) (rest ls) c x
        ≡ record {
          f = f_at;
          g =
              residues.◌⊕◌
              (residues.◌⊕◌ f_at (residues.◌⊕◌ c (residues.◌⊗◌ (minus residues (minus residues g0 f0) c) (basis residues m 0 r)))) x;
        }
    inputs_are = inputs (sym (through_at f0 ls f0-below elements)) (sym g_at_lem)
