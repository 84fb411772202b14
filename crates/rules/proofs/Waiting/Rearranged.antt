-- A list whose members have ids that all differ, in another order: looking an id up finds the same member, and taking it out or
-- changing it leaves lists that are again the same but for their order. By the steps of a rearrangement: where two members
-- change places, not both are on the id. Assumes nothing.
use mathlib.Core.Path.{◌≡◌, refl, sym, ap, ◌∙◌}
use mathlib.Core.Logic.{◌≢◌}
use mathlib.Core.Bool.{Bool, true, false, cond, ◌||◌}
use mathlib.Core.List.{List, ◌∷◌, map}
use mathlib.Core.Option.{Option, some}
use Prim.Native.Nat.{ℕ}
use borrow.Author.Tests.{eqb-true}
use lib.Dec.{eqb}
use Rattle.algebra.specs.Lists.{all∷, Distinct, distinct∷, Rearranged, keep, swap, chain}
use Rattle.algebra.proofs.Rearrangement.{rearranged_refl}
use Rattle.rules.specs.Keyed.{find, without, changed}
use Rattle.rules.specs.Server.{is_member}
use Rattle.rules.proofs.Histories.Shuffled.{rearranged_distinct, rearranged_map}

pub member_rearranged : (x : ℕ) {s t : List ℕ} → Rearranged s t → is_member x s ≡ is_member x t
unfolding is_member
member_rearranged x Rearranged.none = refl
member_rearranged x (keep y p) = ap (λ (b : Bool). eqb y x || b) (member_rearranged x p)
member_rearranged x (swap y z s) = go (eqb y x) (eqb z x)
  where
    go : (a b : Bool) → (a || (b || is_member x s)) ≡ (b || (a || is_member x s))
    go true true = refl
    go true false = refl
    go false true = refl
    go false false = refl
member_rearranged x (chain p q) = member_rearranged x p ∙ member_rearranged x q

module _ {A : Type 0} (key : A → ℕ) where
  -- no two members have the same id
  abbrev pub Apart : List A → Type 0
  Apart s = Distinct (map key s)

  pub apart_on : {s t : List A} → Rearranged s t → Apart s → Apart t
  apart_on p d = rearranged_distinct (rearranged_map key p) d

  module _ (id : ℕ) where
    clash : {x y : A} → key y ≢ key x → eqb (key x) id ≡ true → eqb (key y) id ≡ true → ⊥
    clash ne e f = ne (eqb-true _ _ f ∙ sym (eqb-true _ _ e))

    pub find_rearranged : {s t : List A} → Rearranged s t → Apart s → find key id s ≡ find key id t
    unfolding find
    find_rearranged Rearranged.none d = refl
    find_rearranged (keep x p) (distinct∷ f d) =
        ap (λ (v : Option A). cond (eqb (key x) id) (some x) v) (find_rearranged p d)
    find_rearranged (swap x y s) (distinct∷ (all∷ ne f) d) = go (eqb (key x) id) refl (eqb (key y) id) refl
      where
        go : (a : Bool) → eqb (key x) id ≡ a → (b : Bool) → eqb (key y) id ≡ b
            → cond a (some x) (cond b (some y) (find key id s)) ≡ cond b (some y) (cond a (some x) (find key id s))
        go true e true q = absurd (clash ne e q)
        go true e false q = refl
        go false e true q = refl
        go false e false q = refl
    find_rearranged (chain p q) d = find_rearranged p d ∙ find_rearranged q (apart_on p d)

    pub without_rearranged : {s t : List A} → Rearranged s t → Apart s → Rearranged (without key id s) (without key id t)
    unfolding without
    without_rearranged Rearranged.none d = Rearranged.none
    without_rearranged (keep x {s} {t} p) (distinct∷ f d) = go (eqb (key x) id) (without_rearranged p d)
      where
        go : (b : Bool) → Rearranged (without key id s) (without key id t)
            → Rearranged (cond b s (x ∷ without key id s)) (cond b t (x ∷ without key id t))
        go true r = p
        go false r = keep x r
    without_rearranged (swap x y s) (distinct∷ (all∷ ne f) d) = go (eqb (key x) id) refl (eqb (key y) id) refl
      where
        go : (a : Bool) → eqb (key x) id ≡ a → (b : Bool) → eqb (key y) id ≡ b
            → Rearranged (cond a (y ∷ s) (x ∷ cond b s (y ∷ without key id s))) (cond b (x ∷ s) (y ∷ cond a s (x ∷ without key id s)))
        go true e true q = absurd (clash ne e q)
        go true e false q = rearranged_refl (y ∷ s)
        go false e true q = rearranged_refl (x ∷ s)
        go false e false q = swap x y (without key id s)
    without_rearranged (chain p q) d = chain (without_rearranged p d) (without_rearranged q (apart_on p d))

    pub changed_rearranged : (f : A → A) {s t : List A} → Rearranged s t → Apart s
        → Rearranged (changed key id f s) (changed key id f t)
    unfolding changed
    changed_rearranged f Rearranged.none d = Rearranged.none
    changed_rearranged f (keep x {s} {t} p) (distinct∷ a d) = go (eqb (key x) id) (changed_rearranged f p d)
      where
        go : (b : Bool) → Rearranged (changed key id f s) (changed key id f t)
            → Rearranged (cond b (f x ∷ s) (x ∷ changed key id f s)) (cond b (f x ∷ t) (x ∷ changed key id f t))
        go true r = keep (f x) p
        go false r = keep x r
    changed_rearranged f (swap x y s) (distinct∷ (all∷ ne a) d) = go (eqb (key x) id) refl (eqb (key y) id) refl
      where
        go : (a : Bool) → eqb (key x) id ≡ a → (b : Bool) → eqb (key y) id ≡ b
            → Rearranged (cond a (f x ∷ y ∷ s) (x ∷ cond b (f y ∷ s) (y ∷ changed key id f s)))
            (cond b (f y ∷ x ∷ s) (y ∷ cond a (f x ∷ s) (x ∷ changed key id f s)))
        go true e true q = absurd (clash ne e q)
        go true e false q = swap (f x) y s
        go false e true q = swap x (f y) s
        go false e false q = swap x y (changed key id f s)
    changed_rearranged f (chain p q) d = chain (changed_rearranged f p d) (changed_rearranged f q (apart_on p d))
