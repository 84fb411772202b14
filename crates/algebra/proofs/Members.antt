-- Laws of `All`, `In`, `Distinct`, `every` and `count_from`. By induction on the list. Assumes nothing.
use mathlib.Core.Path.{◌≡◌, refl, sym, ap, ap₂, ◌∙◌, subst}
use mathlib.Core.Logic.{◌⊎◌, ⊎_elim, inl, inr, ◌≢◌}
use mathlib.Core.Bool.{Bool, true, false, ◌&&◌}
use mathlib.Core.List.{List, [], ◌∷◌, ◌++◌, map}
use Prim.Native.Nat.{ℕ, zero, suc, ◌+◌, ◌≤◌, ◌<◌}
use native.Mathlib.Decide.{ℕ_discrete}
use native.Mathlib.Omega.{arith}
use borrow.Author.Tests.{ltb-true, ltb-false}
use lib.Dec.{ltb}
use lib.ListN.{length, get_or}
use Rattle.algebra.specs.Lists.{All, all[], all∷, In, Distinct, distinct[], distinct∷, tabulate, every, count_from}

module _ {A : Type 0} where
  pub all_map : {P Q : A → Type 0} {s : List A} → ((a : A) → P a → Q a) → All P s → All Q s
  all_map f all[] = all[]
  all_map f (all∷ {a = a} p ps) = all∷ (f a p) (all_map f ps)

  pub all_both : {P Q R : A → Type 0} {s : List A} → ((a : A) → P a → Q a → R a) → All P s → All Q s → All R s
  all_both f all[] all[] = all[]
  all_both f (all∷ {a = a} p ps) (all∷ q qs) = all∷ (f a p q) (all_both f ps qs)

  pub all_append : {P : A → Type 0} {s t : List A} → All P s → All P t → All P (s ++ t)
  all_append all[] q = q
  all_append (all∷ p ps) q = all∷ p (all_append ps q)

  pub all_left : {P : A → Type 0} (s t : List A) → All P (s ++ t) → All P s
  all_left [] t h = all[]
  all_left (a ∷ s) t (all∷ p ps) = all∷ p (all_left s t ps)

  pub all_right : {P : A → Type 0} (s t : List A) → All P (s ++ t) → All P t
  all_right [] t h = h
  all_right (a ∷ s) t (all∷ p ps) = all_right s t ps

  pub all_get_d : {P : A → Type 0} {s : List A} (d : A) → All P s → (i : ℕ) → i < length s → P (get_or s i d)
  all_get_d d all[] i h = absurd (omega arith)
  all_get_d d (all∷ p ps) zero h = p
  all_get_d d (all∷ p ps) (suc i) h = all_get_d d ps i (omega arith)

  pub get_d_all : {P : A → Type 0} (d : A) (s : List A) → ((i : ℕ) → i < length s → P (get_or s i d)) → All P s
  get_d_all d [] h = all[]
  get_d_all d (a ∷ s) h = all∷ (h 0 (omega arith)) (get_d_all d s (λ i l. h (suc i) (omega arith)))

  pub all_tabulate : {P : A → Type 0} (f : ℕ → A) (n : ℕ) → ((i : ℕ) → i < n → P (f i)) → All P (tabulate f n)
  unfolding tabulate
  all_tabulate f zero h = all[]
  all_tabulate f (suc n) h = all_append (all_tabulate f n (λ i l. h i (omega arith))) (all∷ (h n (omega arith)) all[])

  pub all_in : {P : A → Type 0} (x : A) (s : List A) → All P s → In x s → P x
  all_in x [] all[] h = absurd h
  all_in {P} x (y ∷ s) (all∷ p ps) (inl e) = subst P e p
  all_in x (y ∷ s) (all∷ p ps) (inr h) = all_in x s ps h

  pub in_all : {P : A → Type 0} (s : List A) → ((x : A) → In x s → P x) → All P s
  in_all [] h = all[]
  in_all (y ∷ s) h = all∷ (h y (inl refl)) (in_all s (λ x k. h x (inr k)))

  -- x is no member of a list of which each member differs from it
  pub not_in : (x : A) (s : List A) → All (λ b. b ≢ x) s → In x s → ⊥
  not_in x s h k = all_in x s h k refl

  pub in_append : (x : A) (s t : List A) → In x (s ++ t) → In x s ⊎ In x t
  in_append x [] t h = inr h
  in_append x (y ∷ s) t (inl e) = inl (inl e)
  in_append x (y ∷ s) t (inr h) = ⊎_elim (λ k. inl (inr k)) (λ k. inr k) (in_append x s t h)

  pub append_in : (x : A) (s t : List A) → In x s ⊎ In x t → In x (s ++ t)
  append_in x [] t (inl h) = absurd h
  append_in x [] t (inr h) = h
  append_in x (y ∷ s) t (inl (inl e)) = inl e
  append_in x (y ∷ s) t (inl (inr h)) = inr (append_in x s t (inl h))
  append_in x (y ∷ s) t (inr h) = inr (append_in x s t (inr h))

module _ {A B : Type 0} (f : A → B) where
  pub map_all : {P : B → Type 0} {s : List A} → All (λ i. P (f i)) s → All P (map f s)
  map_all all[] = all[]
  map_all (all∷ p ps) = all∷ p (map_all ps)

  pub in_map : (x : A) (s : List A) → In x s → In (f x) (map f s)
  in_map x [] h = absurd h
  in_map x (y ∷ s) (inl e) = inl (ap f e)
  in_map x (y ∷ s) (inr h) = inr (in_map x s h)

  pub of_map : (y : B) (s : List A) → In y (map f s) → (x : A) × In x s × (f x ≡ y)
  of_map y [] h = absurd h
  of_map y (x ∷ s) (inl e) = (x, inl refl, e)
  of_map y (x ∷ s) (inr h) = let q = of_map y s h in (q.0, inr q.1, q.2)

  -- where f keeps members apart, it keeps a list's
  pub map_distinct : {P : A → Type 0} → ((a b : A) → P a → P b → a ≢ b → f a ≢ f b) → {s : List A} → All P s → Distinct s
      → Distinct (map f s)
  map_distinct apart all[] distinct[] = distinct[]
  map_distinct apart (all∷ {a = a} p ps) (distinct∷ fresh d) =
      distinct∷ (map_all (all_both (λ i k ne. apart i a k p ne) ps fresh)) (map_distinct apart ps d)

pub map_same : {A B : Type 0} (f g : A → B) (s : List A) → ((x : A) → In x s → f x ≡ g x) → map f s ≡ map g s
map_same f g [] h = refl
map_same {B = B} f g (x ∷ s) h = ap₂ (λ (a : B) (v : List B). a ∷ v) (h x (inl refl)) (map_same f g s (λ z k. h z (inr k)))

-- tests
pub and-true : (a b : Bool) → a ≡ true → b ≡ true → (a && b) ≡ true
and-true a b p q = rw (p, q)

pub and_left : (a b : Bool) → (a && b) ≡ true → a ≡ true
and_left true b e = refl
and_left false b e = e

pub and_right : (a b : Bool) → (a && b) ≡ true → b ≡ true
and_right true b e = e
and_right false b e = absurd (let z : ◌≡◌ {A = ℕ} 0 1 = cc in omega arith)

module _ {A : Type 0} (t : A → Bool) where
  pub every_all : (s : List A) → every t s ≡ true → All (λ x. t x ≡ true) s
  unfolding every
  every_all [] e = all[]
  every_all (x ∷ s) e = all∷ (and_left (t x) (every t s) e) (every_all s (and_right (t x) (every t s) e))

  pub all_every : (s : List A) → All (λ x. t x ≡ true) s → every t s ≡ true
  unfolding every
  all_every [] all[] = refl
  all_every (x ∷ s) (all∷ p ps) = and-true (t x) (every t s) p (all_every s ps)

-- the numbers from a on
pub in_count : (a n j : ℕ) → In j (count_from a n) → (a ≤ j) × (j < a + n)
unfolding count_from
in_count a zero j h = absurd h
in_count a (suc n) j (inl e) = (omega arith, omega arith)
in_count a (suc n) j (inr h) = let q = in_count (suc a) n j h in (omega arith, omega arith)

pub count_in_lem : (a n j : ℕ) → a ≤ j → j < a + n → In j (count_from a n)
unfolding count_from
count_in_lem a zero j h k = absurd (omega arith)
count_in_lem a (suc n) j h k = go (count_in_lem (suc a) n j) (ℕ_discrete a j)
  where
    go : (suc a ≤ j → j < suc a + n → In j (count_from (suc a) n)) → Dec (a ≡ j) → In j (a ∷ count_from (suc a) n)
    go rest (yes e) = inl e
    go rest (no ne) = inr (rest (omega arith) (omega arith))

pub count_distinct : (a n : ℕ) → Distinct (count_from a n)
unfolding count_from
count_distinct a zero = distinct[]
count_distinct a (suc n) =
    distinct∷ (in_all (count_from (suc a) n) (λ b h (e : b ≡ a). (let q = in_count (suc a) n b h in omega arith))) (count_distinct (suc a) n)

pub length_count : (a n : ℕ) → length (count_from a n) ≡ n
unfolding count_from
length_count a zero = refl
length_count a (suc n) = ap suc (length_count (suc a) n)

-- values at numbers that follow each other: two places of a list without repetition hold different values
module _ {A : Type 0} (f : ℕ → A) where
  pub count_apart : (a n : ℕ) → Distinct (map f (count_from a n)) → (i j : ℕ) → a ≤ i → i < j → j < a + n → f i ≢ f j
  unfolding count_from
  count_apart a zero d i j h k l = absurd (omega arith)
  count_apart a (suc n) (distinct∷ fresh d) i j h k l = go (count_apart (suc a) n d i j) (ℕ_discrete a i)
    where
      go : (suc a ≤ i → i < j → j < suc a + n → f i ≢ f j) → Dec (a ≡ i) → f i ≢ f j
      go rest (yes e) q =
          not_in (f a) (map f (count_from (suc a) n)) fresh
          (subst (λ (v : A). In v (map f (count_from (suc a) n))) (sym q ∙ ap f (sym e))
          (in_map f j (count_from (suc a) n) (count_in_lem (suc a) n j (omega arith) (omega arith))))
      go rest (no ne) q = rest (omega arith) k (omega arith) q

  pub apart_count : (n : ℕ) → ((i j : ℕ) → i < j → j < n → f i ≢ f j) → Distinct (map f (count_from 0 n))
  apart_count n h =
      map_distinct f differ (in_all (count_from 0 n) (λ i k. (let q = in_count 0 n i k in omega arith))) (count_distinct 0 n)
    where
      differ : (i j : ℕ) → i < n → j < n → i ≢ j → f i ≢ f j
      differ i j k l ne e = go (ltb i j) refl
        where
          go : (b : Bool) → ltb i j ≡ b → ⊥
          go true q = h i j (ltb-true i j q) l e
          go false q = h j i (let m = ltb-false i j q in omega arith) k (sym e)

  get_d_from : (a n i : ℕ) (d : A) → i < n → get_or (map f (count_from a n)) i d ≡ f (a + i)
  unfolding count_from
  get_d_from a zero i d h = absurd (omega arith)
  get_d_from a (suc n) zero d h = let e : a + 0 ≡ a = omega arith in ap f (sym e)
  get_d_from a (suc n) (suc i) d h = let e : suc a + i ≡ a + suc i = omega arith in get_d_from (suc a) n i d (omega arith) ∙ ap f e

  pub get_d_count : (n i : ℕ) (d : A) → i < n → get_or (map f (count_from 0 n)) i d ≡ f i
  get_d_count n i d h = let e : 0 + i ≡ i = omega arith in get_d_from 0 n i d h ∙ ap f e
