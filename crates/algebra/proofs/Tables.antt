-- Laws of `tabulate`, and of a loop that fills a buffer from its front: after i turns the buffer holds `tabulate f i`,
-- then what it held before. Assumes nothing.
use mathlib.Core.Path.{◌≡◌, refl, sym, ap, ap₂, ◌∙◌}
use mathlib.Core.Logic.{⊎_elim}
use mathlib.Core.List.{List, [], ◌∷◌, ◌++◌, map, map-append, append_assoc, append-nil}
use Prim.Native.Nat.{ℕ, zero, suc, ◌+◌, ◌-◌, ◌≤◌, ◌<◌}
use native.Mathlib.Nat.{eq-or-lt_of_le, le_of_suc-le-suc, add-suc, add-zero}
use native.Mathlib.Numerals.{add-one}
use native.Mathlib.Omega.{arith}
use lib.ListN.{length, length-append, length-drop, get_or, set, take, drop, drop_of_length-le, get_or-append}
use lib.Seq.{drop-cons, set_at, get_or_at, ext_get_or, take-suc}
use Rattle.algebra.specs.Lists.{tabulate}

module _ {A : Type 0} (f : ℕ → A) where
  pub tabulate_none : tabulate f 0 ≡ []
  unfolding tabulate
  tabulate_none = refl

  pub tabulate_next : (n : ℕ) → tabulate f (suc n) ≡ tabulate f n ++ (f n ∷ [])
  unfolding tabulate
  tabulate_next n = refl

  pub length_tabulate : (n : ℕ) → length (tabulate f n) ≡ n
  unfolding tabulate
  length_tabulate zero = refl
  length_tabulate (suc n) = length-append (tabulate f n) (f n ∷ []) ∙ ap (λ (k : ℕ). k + 1) (length_tabulate n) ∙ add-one n

  pub get_d_tabulate : (n i : ℕ) (d : A) → i < n → get_or (tabulate f n) i d ≡ f i
  unfolding tabulate
  get_d_tabulate zero i d h = absurd (omega arith)
  get_d_tabulate (suc n) i d h =
      ⊎_elim
      (λ e. rw e (get_or_at (tabulate f n) (f n) [] d n (length_tabulate n)))
      (λ l. get_or-append (tabulate f n) (f n ∷ []) d i (rw length_tabulate l) ∙ get_d_tabulate n i d l)
      (eq-or-lt_of_le (le_of_suc-le-suc h))

  -- the same by its front
  pub tabulate_front : (n : ℕ) → tabulate f (suc n) ≡ f 0 ∷ tabulate (λ i. f (suc i)) n
  unfolding tabulate
  tabulate_front zero = refl
  tabulate_front (suc n) = ap (λ (l : List A). l ++ (f (suc n) ∷ [])) (tabulate_front n)

  -- a table in two parts
  pub tabulate_append : (m n : ℕ) → tabulate f (m + n) ≡ tabulate f m ++ tabulate (λ i. f (m + i)) n
  unfolding tabulate
  tabulate_append m zero = ap (tabulate f) (add-zero m) ∙ sym (append-nil (tabulate f m))
  tabulate_append m (suc n) =
      ap (tabulate f) (add-suc m n)
      ∙ ap (λ (l : List A). l ++ (f (m + n) ∷ [])) (tabulate_append m n)
      ∙ append_assoc (tabulate f m) (tabulate (λ i. f (m + i)) n) (f (m + n) ∷ [])

  -- filling a buffer d from its front
  pub fill_none : (d : List A) → d ≡ tabulate f 0 ++ drop 0 d
  unfolding tabulate
  fill_none d = refl

  pub fill_next : (d l : List A) (i : ℕ) (v : A) → i < length d → l ≡ tabulate f i ++ drop i d → v ≡ f i
      → set l i v ≡ tabulate f (i + 1) ++ drop (i + 1) d
  unfolding tabulate
  fill_next d l i v h e q =
      rw (e, q, add-one, drop-cons d i v h)
      (set_at (tabulate f i) (get_or d i v) (drop (suc i) d) (f i) i (length_tabulate i)
      ∙ sym (append_assoc (tabulate f i) (f i ∷ []) (drop (suc i) d)))

  pub fill_all : (d l : List A) (i : ℕ) → length d ≤ i → i ≤ length d → l ≡ tabulate f i ++ drop i d
      → l ≡ tabulate f (length d)
  fill_all d l i h k e =
      let q : i ≡ length d = omega arith in
      rw (e, drop_of_length-le d h, append-nil, q)

module _ {A : Type 0} where
  -- equal rules give equal tables
  pub tabulate_cong : (f g : ℕ → A) (n : ℕ) → ((i : ℕ) → i < n → f i ≡ g i) → tabulate f n ≡ tabulate g n
  unfolding tabulate
  tabulate_cong f g zero h = refl
  tabulate_cong f g (suc n) h =
      ap₂ (λ (l : List A) (a : A). l ++ (a ∷ [])) (tabulate_cong f g n (λ i k. h i (omega arith))) (h n (omega arith))

  -- a list is the table of its members
  pub tabulate_get_d : (d : A) (s : List A) → tabulate (λ i. get_or s i d) (length s) ≡ s
  tabulate_get_d d s =
      ext_get_or d (tabulate (λ i. get_or s i d) (length s)) s (length_tabulate (λ i. get_or s i d) (length s))
      (λ i h. get_d_tabulate (λ i. get_or s i d) (length s) i d (rw length_tabulate at h))

pub map_tabulate : {A B : Type 0} (g : A → B) (f : ℕ → A) (n : ℕ) → map g (tabulate f n) ≡ tabulate (λ i. g (f i)) n
unfolding tabulate
map_tabulate g f zero = refl
map_tabulate g f (suc n) = map-append g (tabulate f n) (f n ∷ []) ∙ ap (◌++ (g (f n) ∷ [])) (map_tabulate g f n)
