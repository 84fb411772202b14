-- The bytes of runs of steps: one step more, and how many bytes a run has. Assumes nothing.
use mathlib.Core.Path.{◌≡◌, refl, sym, ap, ◌∙◌}
use mathlib.Core.List.{List, [], ◌∷◌, ◌++◌, append_assoc, append-nil}
use Prim.Native.Nat.{ℕ, zero, suc, ◌+◌, ◌*◌, ◌^◌, ◌≤◌}
use native.Mathlib.Nat.{pow-succ', pow-le-pow_right}
use native.Mathlib.Numerals.{add-one, add-two}
use native.Mathlib.Omega.{arith}
use lib.ListN.{length, length-append}
use Rattle.words.proofs.Numbers.{length_bytes}
use Rattle.rules.specs.Settings.{document01}
use Rattle.rules.specs.Circuit.{Step, entry, add, scale, multiply, test, step_bytes, circuit_bytes, bit_check, bit_checks}
use Rattle.rules.specs.Circuit.{option_adds, option_sum, bit_adds}

abbrev pub bytes : List Step → List ℕ
bytes ks = circuit_bytes document01 ks

pub bytes_none : bytes [] ≡ []
unfolding circuit_bytes
bytes_none = refl

pub bytes_next : (k : Step) (ks : List Step) → bytes (k ∷ ks) ≡ step_bytes document01 k ++ bytes ks
unfolding circuit_bytes
bytes_next k ks = refl

pub bytes_append : (a b : List Step) → bytes (a ++ b) ≡ bytes a ++ bytes b
unfolding circuit_bytes
bytes_append [] b = refl
bytes_append (k ∷ a) b =
    ap (λ (l : List ℕ). step_bytes document01 k ++ l) (bytes_append a b)
    ∙ sym (append_assoc (step_bytes document01 k) (bytes a) (bytes b))

pub bytes_one : (k : Step) → bytes (k ∷ []) ≡ step_bytes document01 k
unfolding circuit_bytes
bytes_one k = append-nil (step_bytes document01 k)

-- a run and one step more
pub bytes_more : (ks : List Step) (k : Step) → bytes (ks ++ (k ∷ [])) ≡ bytes ks ++ step_bytes document01 k
bytes_more ks k = bytes_append ks (k ∷ []) ∙ ap (λ (l : List ℕ). bytes ks ++ l) (bytes_one k)

pub check_is : (e w : ℕ)
    → bytes (bit_check e w)
    ≡ step_bytes document01 (entry e) ++ step_bytes document01 (add w 0) ++ step_bytes document01 (multiply w (w + 1))
    ++ step_bytes document01 (test (w + 2))
unfolding circuit_bytes bit_check
check_is e w = rw (append-nil, add-one, add-two) (simp append_assoc)

-- the last of the options' sums
pub sum_none : (q : ℕ) → 0 ≡ option_sum q 0
unfolding option_sum
sum_none q = refl

pub sum_next : (q n : ℕ) → q + n ≡ option_sum q (n + 1)
unfolding option_sum
sum_next q n = rw add-one

-- the weights of bits
pub weight_next : (v n : ℕ) → v ≡ 2 ^ n → v + v ≡ 2 ^ (n + 1)
weight_next v n e = rw (add-one, pow-succ', e) (omega arith)

pub weight_most : (v n : ℕ) → v ≡ 2 ^ n → n ≤ 24 → v ≤ 16777216
weight_most v n e h = let most : 2 ^ n ≤ 2 ^ 24 = pow-le-pow_right (omega arith) h in omega arith

-- ---- no turn yet
pub checks_none : (e w : ℕ) → bytes (bit_checks 0 e w) ≡ []
unfolding bit_checks circuit_bytes
checks_none e w = refl

pub options_none : (w q : ℕ) → bytes (option_adds 0 w q) ≡ []
unfolding option_adds circuit_bytes
options_none w q = refl

pub weights_none : (w q : ℕ) → bytes (bit_adds 0 w q) ≡ []
unfolding bit_adds circuit_bytes
weights_none w q = refl

-- ---- one turn more
pub check_next : (n e w : ℕ) → bytes (bit_checks (n + 1) e w) ≡ bytes (bit_checks n e w) ++ bytes (bit_check (e + n) (w + 3 * n))
unfolding bit_checks
check_next n e w = rw add-one (bytes_append (bit_checks n e w) (bit_check (e + n) (w + 3 * n)))

pub option_next : (n w q : ℕ)
    → bytes (option_adds (n + 1) w q) ≡ bytes (option_adds n w q) ++ step_bytes document01 (add (option_sum q n) (w + 3 * n))
unfolding option_adds
option_next n w q = rw (add-one, bytes_append, bytes_one)

pub bit_next : (n w q : ℕ)
    → bytes (bit_adds (n + 1) w q)
    ≡ bytes (bit_adds n w q)
    ++ step_bytes document01 (scale (w + 3 * n) (2 ^ n)) ++ step_bytes document01 (add (q + 2 * n) (q + 2 * n + 1))
unfolding bit_adds circuit_bytes
bit_next n w q = rw (add-one n, add-one (q + 2 * n), bytes_append, append-nil) (sym (append_assoc (bytes (bit_adds n w q)) _ _))

-- ---- how many bytes
pub check_long : (e w : ℕ) → length (bytes (bit_check e w)) ≡ 16
unfolding bit_check circuit_bytes step_bytes
check_long e w = simp (length-append, length_bytes)

pub checks_long : (n e w : ℕ) → length (bytes (bit_checks n e w)) ≡ 16 * n
unfolding bit_checks
checks_long zero e w = ap length bytes_none
checks_long (suc n) e w =
    ap length (bytes_append (bit_checks n e w) (bit_check (e + n) (w + 3 * n)))
    ∙ rw (length-append, checks_long n e w, check_long) (omega arith)

pub options_long : (n w q : ℕ) → length (bytes (option_adds n w q)) ≡ 5 * n
unfolding option_adds step_bytes
options_long zero w q = ap length bytes_none
options_long (suc n) w q = simp (bytes_append, bytes_one, length-append, length_bytes, options_long n w q) (omega arith)

pub weights_long : (n w q : ℕ) → length (bytes (bit_adds n w q)) ≡ 12 * n
unfolding bit_adds circuit_bytes step_bytes
weights_long zero w q = refl
weights_long (suc n) w q = simp (bytes_append, length-append, length_bytes, weights_long n w q) (omega arith)
