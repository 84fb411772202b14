-- A closing message is read back: byte, server, count and totals stand at their places. Sums modulo p that grow at their
-- end are sums over a list, with one remainder. Assumes that count and totals fit.
use mathlib.Core.Path.{◌≡◌, refl, sym, ap, ◌∙◌}
use mathlib.Core.List.{List, [], ◌∷◌, ◌++◌, map}
use Prim.Native.Nat.{ℕ, zero, suc, ◌+◌, ◌-◌, ◌*◌, ◌%◌, ◌≤◌, ◌<◌}
use native.Mathlib.Nat.{mod-add-mod, zero-mod, zero-mul, zero-add, add-zero, mul_comm, mul-le-mul_right, le_of_mul-le-mul_left}
use native.Mathlib.Omega.{arith}
use lib.ListN.{length, get_or, drop}
use lib.Seq.{take_at}
use Rattle.algebra.specs.Lists.{All, In, tabulate, sum_over, count_from}
use Rattle.algebra.specs.Modulo.{modulo}
use Rattle.algebra.specs.Sums.{sum}
use Rattle.algebra.proofs.Members.{all_map}
use Rattle.algebra.proofs.Rearrangement.{sum_append, sum_most}
use Rattle.algebra.proofs.Tables.{tabulate_get_d, map_tabulate}
use Rattle.words.specs.Bytes.{value_of, bytes_of, bytes_of_all, elements_of}
use Rattle.words.proofs.Numbers.{length_bytes, value_bytes_lem}
use Rattle.words.proofs.Elements.{length_bytes_all, elements_bytes}
use Rattle.rules.specs.Settings.{Setting, Facts}
use Rattle.rules.specs.Server.{Opened, totals_message}
use Rattle.rules.specs.Joining.{accepted_count, sums_in}
use Rattle.rules.proofs.Histories.MessageBytes.{width_positive}

module _ (σ : Setting) (o : Opened) (count : ℕ) (totals : List ℕ) where
  abbrev message : List ℕ
  message = totals_message σ o count totals

  pub length_totals : length message ≡ 6 + σ.width * length totals
  unfolding totals_message bytes_of
  length_totals = simp length_bytes_all (omega arith)

  pub totals_kind : get_or message 0 0 ≡ σ.totals_byte
  unfolding totals_message
  totals_kind = refl

  pub totals_server : get_or message 1 0 ≡ o.own
  unfolding totals_message
  totals_server = refl

  pub totals_count : count < 4294967296 → accepted_count message ≡ count
  unfolding totals_message
  totals_count h =
      ap value_of (take_at (bytes_of 4 count) (bytes_of_all σ.width totals) 4 (length_bytes 4 count)) ∙ value_bytes_lem 4 count h

  behind : drop 6 message ≡ bytes_of_all σ.width totals
  unfolding totals_message bytes_of
  behind = refl

  pub totals_sums : Facts σ → All (λ x. x < σ.modulus) totals → sums_in σ message ≡ totals
  totals_sums facts below =
      ap (elements_of σ.width) behind
      ∙ elements_bytes σ.width (width_positive σ facts) totals (all_map (λ x h. omega (arith, facts.fits)) below)

-- ---- places
-- a list made from another, place by place
pub map_places : (f : ℕ → ℕ) (xs : List ℕ) → map f xs ≡ tabulate (λ k. f (get_or xs k 0)) (length xs)
map_places f xs =
    ap (map f) (sym (tabulate_get_d 0 xs)) ∙ map_tabulate f (λ k. get_or xs k 0) (length xs)

pub get_d_map : (f : ℕ → ℕ) (xs : List ℕ) (k : ℕ) → k < length xs → get_or (map f xs) k 0 ≡ f (get_or xs k 0)
get_d_map f [] k h = absurd (omega arith)
get_d_map f (x ∷ xs) zero h = refl
get_d_map f (x ∷ xs) (suc k) h = get_d_map f xs k (omega arith)

-- ---- sums modulo p
count_end : (a n : ℕ) → count_from a (suc n) ≡ count_from a n ++ ((a + n) ∷ [])
unfolding count_from
count_end a zero = ap (λ (k : ℕ). k ∷ []) (sym (add-zero a))
count_end a (suc n) =
    let e : suc a + n ≡ a + suc n = omega arith in
    ap (λ (l : List ℕ). a ∷ l) (count_end (suc a) n ∙ ap (λ (k : ℕ). count_from (suc a) n ++ (k ∷ [])) e)

pub sum_modulo : (p n : ℕ) (f : ℕ → ℕ) → sum (modulo p) n f ≡ sum_over f (count_from 0 n) % p
unfolding sum sum_over count_from
sum_modulo p zero f = sym (zero-mod p)
sum_modulo p (suc n) f =
    let last : sum_over f ((0 + n) ∷ []) ≡ f n = add-zero (f (0 + n)) ∙ ap f (zero-add n) in
    let all : sum_over f (count_from 0 (suc n)) ≡ sum_over f (count_from 0 n) + f n =
    ap (sum_over f) (count_end 0 n)
    ∙ sum_append f (count_from 0 n) ((0 + n) ∷ [])
    ∙ ap (λ (k : ℕ). sum_over f (count_from 0 n) + k) last in
    ap (λ (k : ℕ). (k + f n) % p) (sum_modulo p n f)
    ∙ mod-add-mod (sum_over f (count_from 0 n)) p (f n)
    ∙ ap (λ (k : ℕ). k % p) (sym all)

-- few small numbers add up to a small one
sum_scaled : (n : ℕ) (f : ℕ → ℕ) (s : List ℕ) → sum_over (λ x. f x * n) s ≡ sum_over f s * n
unfolding sum_over
sum_scaled n f [] = sym (zero-mul n)
sum_scaled n f (x ∷ s) = let e : sum_over (λ x. f x * n) s ≡ sum_over f s * n = sum_scaled n f s in omega arith

pub small_sum : (p n : ℕ) (f : ℕ → ℕ) (s : List ℕ) → 0 < p → 0 < n → length s ≤ n → ((x : ℕ) → In x s → f x * n < p)
    → sum_over f s < p
small_sum p n f s h k l b =
    let each : sum_over (λ x. f x * n) s ≤ length s * (p - 1) = sum_most (λ x. f x * n) (p - 1) s (λ x q. omega (arith, b x q)) in
    let all : length s * (p - 1) ≤ n * (p - 1) = mul-le-mul_right (p - 1) l in
    let scaled : sum_over (λ x. f x * n) s ≡ sum_over f s * n = sum_scaled n f s in
    let swapped : sum_over f s * n ≡ n * sum_over f s = mul_comm (sum_over f s) n in
    let most : n * sum_over f s ≤ n * (p - 1) = omega arith in
    let less : sum_over f s ≤ p - 1 = le_of_mul-le-mul_left most k in
    omega arith
