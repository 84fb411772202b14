-- D is the sum, over all pairs of returns, of the square of the difference of their x. Taken by the first return: what it
-- adds to D is the sum of its squared differences to the others. So D is never negative, and 0 only where all are equal.
-- Assumes nothing.
use mathlib.Core.Path.{◌≡◌, refl, ap}
use mathlib.Core.Logic.{◌⊎◌, ◌↔◌, inl, inr, ⊎_elim}
use mathlib.Core.List.{List, [], ◌∷◌}
use Prim.Native.Nat.{ℕ, zero, suc, ◌+◌, ◌-◌, ◌*◌, ◌≤◌}
use native.Mathlib.Decide.{dec_le}
use native.Mathlib.Omega.{arith}
use lib.IntN.{pos}
use lib.ListN.{length}
use Rattle.algebra.specs.Lists.{All, all[], all∷, sum_over}
use Rattle.rules.specs.Line.{Point, sums_of, determinant, SameX}
use Rattle.rules.proofs.Lines.Differences.{minus_le, minus_same, minus_zero}

-- the distance of two numbers
abbrev apart : ℕ → ℕ → ℕ
apart a b = (a - b) + (b - a)

apart_squared : (a b : ℕ) → apart a b * apart a b + 2 * (a * b) ≡ a * a + b * b
apart_squared a b = go (dec_le a b)
  where
    above : (a k : ℕ) → k * k + 2 * (a * (a + k)) ≡ a * a + (a + k) * (a + k)
    above a k = omega arith

    go : Dec (a ≤ b) → apart a b * apart a b + 2 * (a * b) ≡ a * a + b * b
    go (yes h) =
        let d : apart a b ≡ b - a = omega arith in
        let e : b ≡ a + (b - a) = omega arith in
        rw d (omega (arith, above a (b - a), ap (λ (t : ℕ). a * t) e, ap (λ (t : ℕ). t * t) e))
    go (no h) =
        let d : apart a b ≡ a - b = omega arith in
        let e : a ≡ b + (a - b) = omega arith in
        rw d (omega (arith, above b (a - b), ap (λ (t : ℕ). b * t) e, ap (λ (t : ℕ). t * t) e))

abbrev sum_x : List Point → ℕ
sum_x ps = sum_over (λ p. p.x) ps

abbrev sum_x_x : List Point → ℕ
sum_x_x ps = sum_over (λ p. p.x * p.x) ps

-- the squared differences of a to the x of each
gaps : ℕ → List Point → ℕ
gaps a ps = sum_over (λ p. apart a p.x * apart a p.x) ps

-- of each pair
pairs : List Point → ℕ
pairs [] = 0
pairs (p ∷ ps) = gaps p.x ps + pairs ps

gaps_are : (a : ℕ) (ps : List Point) → gaps a ps + 2 * (a * sum_x ps) ≡ length ps * (a * a) + sum_x_x ps
unfolding gaps sum_over
gaps_are a [] = omega arith
gaps_are a (p ∷ ps) = omega (arith, gaps_are a ps, apart_squared a p.x)

pairs_are : (ps : List Point) → length ps * sum_x_x ps ≡ sum_x ps * sum_x ps + pairs ps
unfolding pairs sum_over
pairs_are [] = omega arith
pairs_are (p ∷ ps) = omega (arith, pairs_are ps, gaps_are p.x ps)

-- no gap, no difference
square_zero : (n : ℕ) → n * n ≡ 0 → n ≡ 0
square_zero zero e = refl
square_zero (suc n) e = absurd (omega arith)

gaps_none : (a : ℕ) (ps : List Point) → gaps a ps ≡ 0 → All (λ p. p.x ≡ a) ps
unfolding gaps sum_over
gaps_none a [] e = all[]
gaps_none a (p ∷ ps) e =
    let none : apart a p.x ≡ 0 = square_zero (apart a p.x) (omega arith) in
    all∷ {a = p} (omega arith) (gaps_none a ps (omega arith))

-- where all x are a
same_sums : (a : ℕ) (ps : List Point) → All (λ p. p.x ≡ a) ps → (sum_x ps ≡ length ps * a) × (sum_x_x ps ≡ length ps * (a * a))
unfolding sum_over
same_sums a [] all[] = (omega arith, omega arith)
same_sums a (p ∷ ps) (all∷ e es) =
    let r = same_sums a ps es in
    (omega (arith, r.0), rw e (omega (arith, r.1)))

-- ---- D
not_less : (ps : List Point) → sum_x ps * sum_x ps ≤ length ps * sum_x_x ps
not_less ps = omega (arith, pairs_are ps)

pub not_negative : (ps : List Point) → (d : ℕ) × (determinant (sums_of ps) ≡ pos d)
unfolding determinant sums_of
not_negative ps = (_, minus_le _ _ (not_less ps))

-- the two products are equal exactly where all x are
only_when : (ps : List Point) → length ps * sum_x_x ps ≡ sum_x ps * sum_x ps → SameX ps ⊎ (length ps ≡ 0)
unfolding pairs
only_when [] e = inr refl
only_when (p ∷ ps) e =
    let z : gaps p.x ps ≡ 0 = omega (arith, pairs_are (p ∷ ps)) in
    inl (p.x, all∷ refl (gaps_none p.x ps z))

same_when : (ps : List Point) → SameX ps → length ps * sum_x_x ps ≡ sum_x ps * sum_x ps
same_when ps h =
    let r = same_sums h.0 ps h.1 in
    rw (r.0, r.1) (omega arith)

none_when : (ps : List Point) → length ps ≡ 0 → length ps * sum_x_x ps ≡ sum_x ps * sum_x ps
unfolding sum_over
none_when [] e = omega arith
none_when (p ∷ ps) e = absurd (omega arith)

pub zero_when : (ps : List Point) → (determinant (sums_of ps) ≡ pos 0) ↔ (SameX ps ⊎ (length ps ≡ 0))
unfolding determinant sums_of
zero_when ps = (
  λ e. only_when ps (minus_zero _ _ e),
  λ h. minus_same _ _ (⊎_elim (same_when ps) (none_when ps) h),
)
