-- Equation 1: a number times a difference and the sum of two differences are differences again, and two differences are
-- equal where they are over numbers. Assumes nothing.
use mathlib.Core.Path.{◌≡◌, sym, ap, ap₂, ◌∙◌}
use Prim.Native.Nat.{ℕ, suc, ◌+◌, ◌-◌, ◌*◌, ◌≤◌}
use native.Mathlib.Nat.{mul-sub, mul-le-mul_left}
use native.Mathlib.Decide.{dec_le}
use native.Mathlib.Omega.{arith}
use lib.IntN.{ℤ, pos, negsuc, neg_ℤ, ◌+ℤ◌, ◌-ℤ◌, ◌*ℤ◌, +ℤ_assoc, +ℤ_comm, +ℤ_idl, neg_ℤ-+ℤ}
use Rattle.rules.specs.Line.{Sums, determinant, slope, intercept, Solves}
use Rattle.rules.proofs.Lines.Differences.{minus_le, minus_lt}

minus_eq : (a b c d : ℕ) → a + d ≡ c + b → pos a -ℤ pos b ≡ pos c -ℤ pos d
minus_eq a b c d e = go (dec_le b a)
  where
    go : Dec (b ≤ a) → pos a -ℤ pos b ≡ pos c -ℤ pos d
    go (yes h) =
        let same : a - b ≡ c - d = omega arith in
        minus_le a b h ∙ ap pos same ∙ sym (minus_le c d (omega arith))
    go (no h) =
        let same : b - suc a ≡ d - suc c = omega arith in
        minus_lt a b (omega arith) ∙ ap negsuc same ∙ sym (minus_lt c d (omega arith))

sum_swap : (a b c d : ℤ) → (a +ℤ b) +ℤ (c +ℤ d) ≡ (a +ℤ c) +ℤ (b +ℤ d)
sum_swap a b c d =
    +ℤ_assoc a b (c +ℤ d)
    ∙ ap (a +ℤ◌) (sym (+ℤ_assoc b c d) ∙ ap (◌+ℤ d) (+ℤ_comm b c) ∙ +ℤ_assoc c b d)
    ∙ sym (+ℤ_assoc a c (b +ℤ d))

minus_add : (a b c d : ℕ) → (pos a -ℤ pos b) +ℤ (pos c -ℤ pos d) ≡ pos (a + c) -ℤ pos (b + d)
minus_add a b c d =
    sum_swap (pos a) (neg_ℤ (pos b)) (pos c) (neg_ℤ (pos d)) ∙ ap (pos (a + c) +ℤ◌) (sym (neg_ℤ-+ℤ (pos b) (pos d)))

minus_times : (k a b : ℕ) → pos k *ℤ (pos a -ℤ pos b) ≡ pos (k * a) -ℤ pos (k * b)
minus_times k a b = go (dec_le b a)
  where
    go : Dec (b ≤ a) → pos k *ℤ (pos a -ℤ pos b) ≡ pos (k * a) -ℤ pos (k * b)
    go (yes h) = rw (minus_le a b h, minus_le (k * a) (k * b) (mul-le-mul_left k h)) (ap pos (mul-sub k a b))
    go (no h) =
        let rest : b ≡ a + suc (b - suc a) = omega arith in
        let e : 0 + k * b ≡ k * a + k * suc (b - suc a) = omega (arith, ap (λ (t : ℕ). k * t) rest) in
        rw (minus_lt a b (omega arith))
        (sym (+ℤ_idl (neg_ℤ (pos (k * suc (b - suc a))))) ∙ minus_eq 0 (k * suc (b - suc a)) (k * a) (k * b) e)

-- k (a - b) + l (c - d) = m (e - f), where it is so over numbers
combined : (k a b l c d m e f : ℕ) → k * a + l * c + m * f ≡ m * e + (k * b + l * d)
    → pos k *ℤ (pos a -ℤ pos b) +ℤ pos l *ℤ (pos c -ℤ pos d) ≡ pos m *ℤ (pos e -ℤ pos f)
combined k a b l c d m e f h =
    ap₂ ◌+ℤ◌ (minus_times k a b) (minus_times l c d)
    ∙ minus_add (k * a) (k * b) (l * c) (l * d)
    ∙ minus_eq (k * a + l * c) (k * b + l * d) (m * e) (m * f) h
    ∙ sym (minus_times m e f)

pub solves : (s : Sums) → Solves s
unfolding determinant slope intercept
solves s =
    let n = s.n in
    let x = s.x in
    let xx = s.xx in
    let y = s.y in
    let xy = s.xy in
    record {
      first = combined n (xx * y) (x * xy) x (n * xy) (x * y) y (n * xx) (x * x) (omega arith);
      second = combined x (xx * y) (x * xy) xx (n * xy) (x * y) xy (n * xx) (x * x) (omega arith);
    }
