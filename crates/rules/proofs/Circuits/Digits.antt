-- Sums of numbers, the digits of a number to base 2, and zeros and ones of which exactly one is 1. A number is taken apart
-- at its lowest digit, a sum at its end. Assumes nothing.
use mathlib.Core.Path.{◌≡◌, refl, sym, ◌∙◌, ap, ap₂}
use mathlib.Core.Bool.{Bool, cond, true, false}
use Prim.Native.Nat.{ℕ, zero, suc, ◌+◌, ◌*◌, ◌/◌, ◌%◌, ◌^◌, ◌≤◌, ◌<◌}
use native.Mathlib.Nat.{pow-succ', div-div-eq-div-mul}
use native.Mathlib.Decide.{ℕ_discrete}
use native.Mathlib.Omega.{arith}
use borrow.Author.Tests.{eq-eqb, ne_eqb}
use lib.Dec.{eqb}

-- d 0 + .. + d (n - 1)
unfoldable pub total : (ℕ → ℕ) → ℕ → ℕ
total d zero = 0
total d (suc n) = total d n + d n

total_ext : (d d' : ℕ → ℕ) (n : ℕ) → ((i : ℕ) → i < n → d i ≡ d' i) → total d n ≡ total d' n
unfolding total
total_ext d d' zero h = refl
total_ext d d' (suc n) h = ap₂ ◌+◌ (total_ext d d' n (λ i l. h i (omega arith))) (h n (omega arith))

-- ---- digits
-- each digit is 0 or 1
abbrev pub Bits : (ℕ → ℕ) → ℕ → Type 0
Bits d n = (i : ℕ) → i < n → d i < 2

-- the number with the digits d, lowest first
abbrev pub number_of : (ℕ → ℕ) → ℕ → ℕ
number_of d n = total (λ i. d i * 2 ^ i) n

low_first : (d : ℕ → ℕ) (n : ℕ) → number_of d (suc n) ≡ d 0 + 2 * number_of (λ i. d (suc i)) n
unfolding total
low_first d zero = omega arith
low_first d (suc n) =
    let ih : number_of d (suc n) ≡ d 0 + 2 * number_of (λ i. d (suc i)) n = low_first d n in
    let two : d (suc n) * 2 ^ suc n ≡ d (suc n) * (2 * 2 ^ n) = ap (λ (t : ℕ). d (suc n) * t) (pow-succ' 2 n) in
    ap₂ ◌+◌ ih two ∙ omega arith

pub number_below : (d : ℕ → ℕ) (n : ℕ) → Bits d n → number_of d n < 2 ^ n
unfolding total
number_below d zero h = omega arith
number_below d (suc n) h =
    let ih : number_of (λ i. d (suc i)) n < 2 ^ n = number_below (λ i. d (suc i)) n (λ i l. h (suc i) (omega arith)) in
    let low : d 0 < 2 = h 0 (omega arith) in
    omega (arith, low_first d n, pow-succ' 2 n)

half_first : (v j : ℕ) → v / 2 ^ suc j ≡ v / 2 / 2 ^ j
half_first v j = ap (λ (t : ℕ). v / t) (pow-succ' 2 j) ∙ sym (div-div-eq-div-mul v 2 (2 ^ j))

-- the digits of the number with the digits d are d
pub digit_at : (d : ℕ → ℕ) (n : ℕ) → Bits d n → (j : ℕ) → j < n → number_of d n / 2 ^ j % 2 ≡ d j
digit_at d zero h j l = absurd (omega arith)
digit_at d (suc n) h zero l =
    let low : d 0 < 2 = h 0 (omega arith) in
    ap (λ (t : ℕ). t / 1 % 2) (low_first d n) ∙ omega arith
digit_at d (suc n) h (suc j) l =
    let low : d 0 < 2 = h 0 (omega arith) in
    let rest : number_of d (suc n) / 2 ≡ number_of (λ i. d (suc i)) n = ap (λ (t : ℕ). t / 2) (low_first d n) ∙ omega arith in
    ap (λ (t : ℕ). t % 2) (half_first (number_of d (suc n)) j ∙ ap (λ (t : ℕ). t / 2 ^ j) rest)
    ∙ digit_at (λ i. d (suc i)) n (λ i k. h (suc i) (omega arith)) j (omega arith)

-- a number is the one with its digits
pub number_again : (n v : ℕ) → v < 2 ^ n → number_of (λ i. v / 2 ^ i % 2) n ≡ v
unfolding total
number_again zero v h = omega arith
number_again (suc n) v h =
    let small : v / 2 < 2 ^ n = omega (arith, pow-succ' 2 n) in
    let rest : number_of (λ i. v / 2 ^ suc i % 2) n ≡ v / 2
    = total_ext _ _ n (λ i l. ap (λ (t : ℕ). t % 2 * 2 ^ i) (half_first v i)) ∙ number_again n (v / 2) small in
    low_first (λ i. v / 2 ^ i % 2) n ∙ ap (λ (t : ℕ). v / 2 ^ 0 % 2 + 2 * t) rest ∙ omega arith

-- ---- exactly one 1
-- 1 at v, else 0
abbrev pub one_at : ℕ → ℕ → ℕ
one_at v i = cond (eqb v i) 1 0

one_at_lem : (v i : ℕ) → v ≡ i → one_at v i ≡ 1
one_at_lem v i e = ap (λ (b : Bool). cond b 1 0) (eq-eqb v i e)

none_at : (v i : ℕ) → (v ≡ i → ⊥) → one_at v i ≡ 0
none_at v i ne = ap (λ (b : Bool). cond b 1 0) (ne_eqb v i ne)

pub flag_below : (b : Bool) → cond b 1 0 < 2
flag_below true = omega arith
flag_below false = omega arith

pub one_at_below : (v i : ℕ) → one_at v i < 2
one_at_below v i = flag_below (eqb v i)

pub total_most : (d : ℕ → ℕ) (n : ℕ) → Bits d n → total d n ≤ n
unfolding total
total_most d zero h = omega arith
total_most d (suc n) h = omega (arith, total_most d n (λ i l. h i (omega arith)), h n (omega arith))

total_none : (d : ℕ → ℕ) (n : ℕ) → total d n ≡ 0 → (i : ℕ) → i < n → d i ≡ 0
unfolding total
total_none d zero e i l = absurd (omega arith)
total_none d (suc n) e i l = go (ℕ_discrete i n) (total_none d n)
  where
    go : Dec (i ≡ n) → (total d n ≡ 0 → (i : ℕ) → i < n → d i ≡ 0) → d i ≡ 0
    go (yes q) ih = ap d q ∙ omega arith
    go (no q) ih = ih (omega arith) i (omega arith)

pub record One (d : ℕ → ℕ) (n : ℕ) : Type 0 where
  pub chosen : ℕ
  pub chosen_below : chosen < n
  pub digits_are : (i : ℕ) → i < n → d i ≡ one_at chosen i

-- zeros and ones that add up to 1
pub total_one : (d : ℕ → ℕ) (n : ℕ) → Bits d n → total d n ≡ 1 → One d n
unfolding total
total_one d zero h e = absurd (omega arith)
total_one d (suc n) h e = go (ℕ_discrete (d n) 0) (total_one d n (λ i l. h i (omega arith)))
  where
    last : d n < 2
    last = h n (omega arith)

    go : Dec (d n ≡ 0) → (total d n ≡ 1 → One d n) → One d (suc n)
    go (yes z) ih = record {
      chosen = r.chosen;
      chosen_below = omega (arith, r.chosen_below);
      digits_are = λ i l. at i l (ℕ_discrete i n);
    }
      where
        r : One d n
        r = ih (omega arith)

        at : (i : ℕ) → i < suc n → Dec (i ≡ n) → d i ≡ one_at r.chosen i
        at i l (yes q) = ap d q ∙ z ∙ sym (none_at r.chosen i (λ k. omega (arith, r.chosen_below)))
        at i l (no q) = r.digits_are i (omega arith)
    go (no z) ih = record { chosen = n; chosen_below = omega arith; digits_are = λ i l. at i l (ℕ_discrete i n) }
      where
        one : d n ≡ 1
        one = omega (arith, last)

        at : (i : ℕ) → i < suc n → Dec (i ≡ n) → d i ≡ one_at n i
        at i l (yes q) = ap d q ∙ one ∙ sym (one_at_lem n i (sym q))
        at i l (no q) = total_none d n (omega (arith, one)) i (omega arith) ∙ sym (none_at n i (λ k. q (sym k)))

-- and back
pub one_total : (v n : ℕ) → v < n → total (one_at v) n ≡ 1
unfolding total
one_total v zero l = absurd (omega arith)
one_total v (suc n) l = go (ℕ_discrete v n) (one_total v n)
  where
    before : (k : ℕ) → k ≤ v → total (one_at v) k ≡ 0
    before zero h = refl
    before (suc k) h = ap₂ ◌+◌ (before k (omega arith)) (none_at v k (λ q. omega arith))

    go : Dec (v ≡ n) → (v < n → total (one_at v) n ≡ 1) → total (one_at v) n + one_at v n ≡ 1
    go (yes q) ih = ap₂ ◌+◌ (before n (omega arith)) (one_at_lem v n q)
    go (no q) ih = ap₂ ◌+◌ (ih (omega arith)) (none_at v n q)
