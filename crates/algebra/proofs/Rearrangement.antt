-- Rearranged lists: two lists without repetition and with the same members, or the members of the one among the other's and no
-- fewer, are rearrangements of each other, since each member can be taken out of both; a sum over a list depends on the members
-- alone. Assumes nothing.
use mathlib.Core.Path.{◌≡◌, refl, sym, ap, ap₂, ◌∙◌, subst}
use mathlib.Core.Logic.{◌⊎◌, ⊎_elim, inl, inr, ◌≢◌}
use mathlib.Core.List.{List, [], ◌∷◌, ◌++◌, map}
use Prim.Native.Nat.{ℕ, zero, suc, ◌+◌, ◌*◌, ◌%◌, ◌≤◌, ◌<◌}
use native.Mathlib.Nat.{mod-mod, add-mod}
use native.Mathlib.Omega.{arith}
use lib.ListN.{length}
use Rattle.algebra.specs.Lists.{All, all[], all∷, In, Distinct, distinct[], distinct∷, Rearranged, none, keep, swap, chain, sum_over}
use Rattle.algebra.proofs.Members.{all_map, all_in, in_all, not_in}

module _ {A : Type 0} where
  pub rearranged_refl : (s : List A) → Rearranged s s
  rearranged_refl [] = none
  rearranged_refl (x ∷ s) = keep x (rearranged_refl s)

  pub rearranged_sym : {s t : List A} → Rearranged s t → Rearranged t s
  rearranged_sym none = none
  rearranged_sym (keep x p) = keep x (rearranged_sym p)
  rearranged_sym (swap x y s) = swap y x s
  rearranged_sym (chain p q) = chain (rearranged_sym q) (rearranged_sym p)

  pub rearranged_length : {s t : List A} → Rearranged s t → length s ≡ length t
  rearranged_length none = refl
  rearranged_length (keep x p) = ap suc (rearranged_length p)
  rearranged_length (swap x y s) = refl
  rearranged_length (chain p q) = rearranged_length p ∙ rearranged_length q

  pub rearranged_sum : (f : A → ℕ) {s t : List A} → Rearranged s t → sum_over f s ≡ sum_over f t
  unfolding sum_over
  rearranged_sum f none = refl
  rearranged_sum f (keep x p) = ap (λ (k : ℕ). f x + k) (rearranged_sum f p)
  rearranged_sum f (swap x y s) = omega arith
  rearranged_sum f (chain p q) = rearranged_sum f p ∙ rearranged_sum f q

  -- a member taken out of a list
  record Without (x : A) (s : List A) : Type 0 where
    rest : List A
    order : Rearranged (x ∷ rest) s
    apart : Distinct rest
    gone : All (λ z. z ≢ x) rest
    back : (z : A) → In z rest → In z s
    out : (z : A) → In z s → (x ≡ z) ⊎ In z rest

  without : (x : A) (s : List A) → Distinct s → In x s → Without x s
  without x [] d h = absurd h
  without x (y ∷ s) (distinct∷ fresh d) (inl e) = record {
    rest = s;
    order = subst (λ (w : A). Rearranged (x ∷ s) (w ∷ s)) (sym e) (rearranged_refl (x ∷ s));
    apart = d;
    gone = subst (λ (w : A). All (λ z. z ≢ w) s) e fresh;
    back = λ z h. inr h;
    out = λ z h. ⊎_elim (λ q. inl (sym e ∙ q)) (λ q. inr q) h;
  }
  without x (y ∷ s) (distinct∷ fresh d) (inr h) =
      let w : Without x s = without x s d h in
      record {
        rest = y ∷ w.rest;
        order = chain (swap x y w.rest) (keep y w.order);
        apart = distinct∷ (in_all w.rest (λ z q. all_in z s fresh (w.back z q))) w.apart;
        gone = all∷ (λ e. not_in y s fresh (subst (λ (v : A). In v s) (sym e) h)) w.gone;
        back = λ z q. ⊎_elim (λ e. inl e) (λ k. inr (w.back z k)) q;
        out = λ z q. ⊎_elim (λ e. inr (inl e)) (λ k. ⊎_elim (λ e. inl e) (λ j. inr (inr j)) (w.out z k)) q;
      }

  -- what has the other members of a list
  rest_has : (x : A) (s t : List A) → All (λ z. z ≢ x) s → ((z : A) → In z s → In z t) → (w : Without x t)
      → (z : A) → In z s → In z w.rest
  rest_has x s t fresh f w z h =
      ⊎_elim (λ (q : x ≡ z). absurd (not_in x s fresh (subst (λ (v : A). In v s) (sym q) h))) (λ q. q) (w.out z (f z h))

  pub same_members : (s t : List A) → Distinct s → Distinct t → ((x : A) → In x s → In x t)
      → ((x : A) → In x t → In x s) → Rearranged s t
  same_members [] [] d e f g = none
  same_members [] (y ∷ t) d e f g = absurd (g y (inl refl))
  same_members (x ∷ s) t (distinct∷ fresh d) e f g =
      let w : Without x t = without x t e (f x (inl refl)) in
      chain (keep x (same_members s w.rest d w.apart (rest_has x s t fresh (λ z h. f z (inr h)) w) (here w))) w.order
    where
      here : (w : Without x t) → (z : A) → In z w.rest → In z s
      here w z h =
          ⊎_elim (λ (q : x ≡ z). absurd (not_in x w.rest w.gone (subst (λ (v : A). In v w.rest) (sym q) h))) (λ q. q)
          (g z (w.back z h))

  -- a list without repetition whose members another has, and that is no shorter
  pub fills : (s t : List A) → Distinct s → Distinct t → ((x : A) → In x s → In x t) → length t ≤ length s → Rearranged s t
  fills [] [] d e f l = none
  fills [] (y ∷ t) d e f l = absurd (omega arith)
  fills (x ∷ s) t (distinct∷ fresh d) e f l =
      let w : Without x t = without x t e (f x (inl refl)) in
      let shorter : suc (length w.rest) ≡ length t = rearranged_length w.order in
      chain (keep x (fills s w.rest d w.apart (rest_has x s t fresh (λ z h. f z (inr h)) w) (omega arith))) w.order

  -- sums over a list
  pub sum_cong : (f g : A → ℕ) (s : List A) → ((x : A) → In x s → f x ≡ g x) → sum_over f s ≡ sum_over g s
  unfolding sum_over
  sum_cong f g [] h = refl
  sum_cong f g (x ∷ s) h = ap₂ (λ (a b : ℕ). a + b) (h x (inl refl)) (sum_cong f g s (λ z k. h z (inr k)))

  pub sum_none : (s : List A) → sum_over (λ (x : A). 0) s ≡ 0
  unfolding sum_over
  sum_none [] = refl
  sum_none (x ∷ s) = omega (arith, sum_none s)

  pub sum_both : (f g : A → ℕ) (s : List A) → sum_over (λ x. f x + g x) s ≡ sum_over f s + sum_over g s
  unfolding sum_over
  sum_both f g [] = refl
  sum_both f g (x ∷ s) = omega (arith, sum_both f g s)

  pub sum_append : (f : A → ℕ) (s t : List A) → sum_over f (s ++ t) ≡ sum_over f s + sum_over f t
  unfolding sum_over
  sum_append f [] t = omega arith
  sum_append f (x ∷ s) t = omega (arith, sum_append f s t)

  -- remainders may be taken inside
  pub sum_rem : (p : ℕ) (f : A → ℕ) (s : List A) → sum_over (λ x. f x % p) s % p ≡ sum_over f s % p
  unfolding sum_over
  sum_rem p f [] = refl
  sum_rem p f (x ∷ s) =
      add-mod (f x % p) (sum_over (λ z. f z % p) s) p
      ∙ ap₂ (λ (a b : ℕ). (a + b) % p) (mod-mod (f x) p) (sum_rem p f s)
      ∙ sym (add-mod (f x) (sum_over f s) p)

  pub sum_most : (f : A → ℕ) (b : ℕ) (s : List A) → ((x : A) → In x s → f x ≤ b) → sum_over f s ≤ length s * b
  unfolding sum_over
  sum_most f b [] h = omega arith
  sum_most f b (x ∷ s) h = omega (arith, h x (inl refl), sum_most f b s (λ z k. h z (inr k)))

module _ {A B : Type 0} where
  pub sum_map : (f : B → ℕ) (g : A → B) (s : List A) → sum_over f (map g s) ≡ sum_over (λ x. f (g x)) s
  unfolding sum_over
  sum_map f g [] = refl
  sum_map f g (x ∷ s) = ap (λ (k : ℕ). f (g x) + k) (sum_map f g s)

  -- rows first or columns first
  pub sum_swap : (f : A → B → ℕ) (s : List A) (t : List B)
      → sum_over (λ x. sum_over (f x) t) s ≡ sum_over (λ y. sum_over (λ x. f x y) s) t
  unfolding sum_over
  sum_swap f [] t = sym (sum_none t)
  sum_swap f (x ∷ s) t =
      ap (λ (k : ℕ). sum_over (f x) t + k) (sum_swap f s t) ∙ sym (sum_both (f x) (λ y. sum_over (λ z. f z y) s) t)
