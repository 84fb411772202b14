-- The inner product by sums of the lower and the upper parts of the products, which are reduced once at the end. A product
-- is lower + 2147483648 * upper and 2147483648 leaves 1, so the two sums leave what the inner product is. Assumes nothing.
use mathlib.Core.Path.{◌≡◌, refl, sym, ap, ap₂, ◌∙◌}
use Prim.Native.Nat.{ℕ, ◌+◌, ◌*◌, ◌/◌, ◌%◌, ◌^◌, ◌≤◌, ◌<◌}
use native.Mathlib.Nat.{mod-add-mod, add-mod-mod}
use native.Mathlib.Numerals.{add-one}
use native.Mathlib.Omega.{arith}
use Rattle.algebra.specs.Sums.{sum, inner}
use Rattle.field.specs.Residues.{prime, top, residues}
use Rattle.field.proofs.Reduction.{folded}

-- the parts of one more number z
pub parts_add : (low high z : ℕ) → (low + z % top + (high + z / top)) % prime ≡ ((low + high) % prime + z) % prime
parts_add low high z =
    let apart : low + z % top + (high + z / top) ≡ low + high + (z % top + z / top) = omega arith in
    ap (λ (t : ℕ). t % prime) apart
    ∙ sym (add-mod-mod (low + high) (z % top + z / top) prime)
    ∙ ap (λ (t : ℕ). (low + high + t) % prime) (folded z)
    ∙ add-mod-mod (low + high) z prime
    ∙ sym (mod-add-mod (low + high) prime z)

module _ (x y : ℕ → ℕ) where
  -- low and high are the sums of the parts of the first i products
  pub record Parts (low high i : ℕ) : Type 0 where
    pub low_most : low ≤ 2 * top * i
    pub high_most : high ≤ 4 * top * i
    pub is : (low + high) % prime ≡ inner residues i x y

  pub start : Parts 0 0 0
  unfolding sum
  start = record { low_most = omega arith; high_most = omega arith; is = refl }

  pub turn : {low high i : ℕ} (z : ℕ) → Parts low high i → z ≡ x i * y i → z < 2 ^ 64
      → Parts (low + z % top) (high + z / top) (i + 1)
  unfolding sum
  turn {low} {high} {i} z v e fits = record { low_most = omega arith; high_most = omega arith; is = next }
    where
      next : (low + z % top + (high + z / top)) % prime ≡ inner residues (i + 1) x y
      next =
          parts_add low high z
          ∙ ap₂ (λ (s t : ℕ). (s + t) % prime) v.is e
          ∙ sym (add-mod-mod (inner residues i x y) (x i * y i) prime)
          ∙ ap (λ (n : ℕ). inner residues n x y) (sym (add-one i))
