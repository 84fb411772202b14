-- Lists whose members have an id. What is found has the id and can be taken out; looking up, changing and taking out go
-- through a map that keeps ids, leave the members of other ids alone, and see only those of the id itself. Assumes nothing.
use mathlib.Core.Path.{◌≡◌, refl, sym, ap, ◌∙◌, subst}
use mathlib.Core.Logic.{inl, inr, ◌⊎◌, ⊎_elim}
use mathlib.Core.Bool.{Bool, true, false, cond, ◌||◌, true≢false}
use mathlib.Core.List.{List, [], ◌∷◌, ◌++◌, map}
use mathlib.Core.Option.{Option, some, none}
use Prim.Native.Nat.{ℕ}
use native.Mathlib.Omega.{arith}
use borrow.Author.Tests.{eqb-true, eq-eqb, ne_eqb}
use lib.Dec.{eqb}
use Rattle.algebra.specs.Lists.{In, Distinct, distinct∷, Rearranged, keep, swap, chain}
use Rattle.algebra.proofs.Members.{in_map, not_in}
use Rattle.algebra.proofs.Rearrangement.{rearranged_refl}
use Rattle.rules.specs.Server.{is_member}
use Rattle.rules.specs.Keyed.{find, under, without, changed}

-- ---- whether an id is among ids
pub no_member_in : (x : ℕ) (s : List ℕ) → is_member x s ≡ false → In x s → ⊥
unfolding is_member
no_member_in x [] e h = h
no_member_in x (y ∷ s) e (inl q) = true≢false (sym (ap (λ (b : Bool). b || is_member x s) (eq-eqb y x q)) ∙ e)
no_member_in x (y ∷ s) e (inr h) = go (eqb y x) e (λ k. no_member_in x s k h)
  where
    go : (t : Bool) → (t || is_member x s) ≡ false → (is_member x s ≡ false → ⊥) → ⊥
    go true k f = true≢false k
    go false k f = f k

pub not_in_member : (x : ℕ) (s : List ℕ) → (In x s → ⊥) → is_member x s ≡ false
unfolding is_member
not_in_member x [] h = refl
not_in_member x (y ∷ s) h = rw (ne_eqb y x (λ e. h (inl e))) (not_in_member x s (λ k. h (inr k)))

pub in_member : (x : ℕ) (s : List ℕ) → In x s → is_member x s ≡ true
unfolding is_member
in_member x [] h = absurd h
in_member x (y ∷ s) (inl e) = rw (eq-eqb y x e) refl
in_member x (y ∷ s) (inr h) = rw (in_member x s h) (go (eqb y x))
  where
    go : (b : Bool) → (b || true) ≡ true
    go true = refl
    go false = refl

pub member_append : (x : ℕ) (s t : List ℕ) → is_member x (s ++ t) ≡ (is_member x s || is_member x t)
unfolding is_member
member_append x [] t = refl
member_append x (y ∷ s) t = go (eqb y x) (member_append x s t)
  where
    go : (b : Bool) → is_member x (s ++ t) ≡ (is_member x s || is_member x t)
        → (b || is_member x (s ++ t)) ≡ ((b || is_member x s) || is_member x t)
    go true e = refl
    go false e = e

abbrev pub through : {A B : Type 0} → (A → B) → Option A → Option B
through f none = none
through f (some a) = some (f a)

-- ---- what is found
module _ {A : Type 0} (key : A → ℕ) (id : ℕ) where
  pub found_here : (w : A) (ws : List A) → key w ≡ id → find key id (w ∷ ws) ≡ some w
  unfolding find
  found_here w ws e = rw (eq-eqb (key w) id e) refl

  pub found_past : (w : A) (ws : List A) (v : Option A) → eqb (key w) id ≡ false → find key id ws ≡ v → find key id (w ∷ ws) ≡ v
  unfolding find
  found_past w ws v q h = rw q h

  pub not_found : (ws : List A) → (In id (map key ws) → ⊥) → find key id ws ≡ none
  unfolding find
  not_found [] h = refl
  not_found (w ∷ ws) h = rw (ne_eqb (key w) id (λ e. h (inl e))) (not_found ws (λ k. h (inr k)))

  pub found_id : (ws : List A) (w : A) → find key id ws ≡ some w → key w ≡ id
  unfolding find
  found_id [] w e = absurd (let z : ◌≡◌ {A = ℕ} 0 1 = cc in omega arith)
  found_id (v ∷ ws) w e = go (eqb (key v) id) refl e (found_id ws w)
    where
      go : (b : Bool) → eqb (key v) id ≡ b → cond b (some v) (find key id ws) ≡ some w
          → (find key id ws ≡ some w → key w ≡ id) → key w ≡ id
      go true q e f = let same : v ≡ w = cc in ap key (sym same) ∙ eqb-true _ _ q
      go false q e f = f e

  -- the one with the id, where no other has it
  pub found_in_lem : (ws : List A) (w : A) → Distinct (map key ws) → In w ws → key w ≡ id → find key id ws ≡ some w
  unfolding find
  found_in_lem [] w d h e = absurd h
  found_in_lem (v ∷ ws) w d (inl q) e = rw (eq-eqb (key v) id (ap key q ∙ e)) (ap (λ (a : A). some a) q)
  found_in_lem (v ∷ ws) w (distinct∷ fresh d) (inr h) e = rw (ne_eqb (key v) id differ) (found_in_lem ws w d h e)
    where
      differ : key v ≡ id → ⊥
      differ q = not_in (key v) (map key ws) fresh (subst (λ (k : ℕ). In k (map key ws)) (e ∙ sym q) (in_map key w ws h))

  pub found_out : (ws : List A) (w : A) → find key id ws ≡ some w → Rearranged (w ∷ without key id ws) ws
  unfolding find without
  found_out [] w e = absurd (let z : ◌≡◌ {A = ℕ} 0 1 = cc in omega arith)
  found_out (v ∷ ws) w e = go (eqb (key v) id) e (found_out ws w)
    where
      go : (b : Bool) → cond b (some v) (find key id ws) ≡ some w
          → (find key id ws ≡ some w → Rearranged (w ∷ without key id ws) ws)
          → Rearranged (w ∷ cond b ws (v ∷ without key id ws)) (v ∷ ws)
      go true e f =
          let same : w ≡ v = cc in
          subst (λ (x : A). Rearranged (w ∷ ws) (x ∷ ws)) same (rearranged_refl (w ∷ ws))
      go false e f = chain (swap w v (without key id ws)) (keep v (f e))

  pub find_in : (ws : List A) (w : A) → find key id ws ≡ some w → In w ws
  unfolding find
  find_in [] w e = absurd (let z : ◌≡◌ {A = ℕ} 0 1 = cc in omega arith)
  find_in (v ∷ ws) w e = go (eqb (key v) id) e (find_in ws w)
    where
      go : (b : Bool) → cond b (some v) (find key id ws) ≡ some w → (find key id ws ≡ some w → In w ws) → In w (v ∷ ws)
      go true e f = inl (cc)
      go false e f = inr (f e)

  pub changed_found : (f : A → A) → ((a : A) → key (f a) ≡ key a) → (ws : List A) (w : A) → find key id ws ≡ some w
      → find key id (changed key id f ws) ≡ some (f w)
  unfolding find changed
  changed_found f h [] w e = absurd (let z : ◌≡◌ {A = ℕ} 0 1 = cc in omega arith)
  changed_found f h (v ∷ ws) w e = go (eqb (key v) id) refl e (changed_found f h ws w)
    where
      go : (b : Bool) → eqb (key v) id ≡ b → cond b (some v) (find key id ws) ≡ some w
          → (find key id ws ≡ some w → find key id (changed key id f ws) ≡ some (f w))
          → find key id (cond b (f v ∷ ws) (v ∷ changed key id f ws)) ≡ some (f w)
      go true q e r = let same : v ≡ w = cc in rw (h v, q) (ap (λ (a : A). some (f a)) same)
      go false q e r = rw q (r e)

  -- what a change keeps
  -- a member of a changed list was there, or it is what the change makes of the one that is found
  pub changed_in : (f : A → A) (ws : List A) (p : A) → In p (changed key id f ws)
      → In p ws ⊎ ((v : A) × (find key id ws ≡ some v) × (f v ≡ p))
  unfolding changed find
  changed_in f [] p h = absurd h
  changed_in f (w ∷ ws) p h = go (eqb (key w) id) h (changed_in f ws p)
    where
      go : (b : Bool) → In p (cond b (f w ∷ ws) (w ∷ changed key id f ws))
          → (In p (changed key id f ws) → In p ws ⊎ ((v : A) × (find key id ws ≡ some v) × (f v ≡ p)))
          → In p (w ∷ ws) ⊎ ((v : A) × (cond b (some w) (find key id ws) ≡ some v) × (f v ≡ p))
      go true (inl e) r = inr (w, refl, e)
      go true (inr k) r = inl (inr k)
      go false (inl e) r = inl (inl e)
      go false (inr k) r = ⊎_elim (λ q. inl (inr q)) (λ q. inr q) (r k)

  -- a member is still there, or it is the one that is found
  pub changed_still : (f : A → A) (ws : List A) (p : A) → In p ws → In p (changed key id f ws) ⊎ (find key id ws ≡ some p)
  unfolding changed find
  changed_still f [] p h = absurd h
  changed_still f (w ∷ ws) p h = go (eqb (key w) id) h (changed_still f ws p)
    where
      go : (b : Bool) → In p (w ∷ ws) → (In p ws → In p (changed key id f ws) ⊎ (find key id ws ≡ some p))
          → In p (cond b (f w ∷ ws) (w ∷ changed key id f ws)) ⊎ (cond b (some w) (find key id ws) ≡ some p)
      go true (inl e) r = inr (ap (λ (v : A). some v) e)
      go true (inr k) r = inl (inr k)
      go false (inl e) r = inl (inl e)
      go false (inr k) r = ⊎_elim (λ q. inl (inr q)) (λ q. inr q) (r k)

  pub without_still : (ws : List A) (p : A) → In p ws → In p (without key id ws) ⊎ (find key id ws ≡ some p)
  unfolding without find
  without_still [] p h = absurd h
  without_still (w ∷ ws) p h = go (eqb (key w) id) h (without_still ws p)
    where
      go : (b : Bool) → In p (w ∷ ws) → (In p ws → In p (without key id ws) ⊎ (find key id ws ≡ some p))
          → In p (cond b ws (w ∷ without key id ws)) ⊎ (cond b (some w) (find key id ws) ≡ some p)
      go true (inl e) r = inr (ap (λ (v : A). some v) e)
      go true (inr k) r = inl k
      go false (inl e) r = inl (inl e)
      go false (inr k) r = ⊎_elim (λ q. inl (inr q)) (λ q. inr q) (r k)

  pub changed_keeps : {B : Type 0} (g : A → B) (f : A → A) → ((a : A) → g (f a) ≡ g a) → (ws : List A)
      → map g (changed key id f ws) ≡ map g ws
  unfolding changed
  changed_keeps g f h [] = refl
  changed_keeps {B} g f h (w ∷ ws) = go (eqb (key w) id) (changed_keeps g f h ws)
    where
      go : (b : Bool) → map g (changed key id f ws) ≡ map g ws
          → map g (cond b (f w ∷ ws) (w ∷ changed key id f ws)) ≡ g w ∷ map g ws
      go true r = ap (λ (x : B). x ∷ map g ws) (h w)
      go false r = ap (λ (x : List B). g w ∷ x) r

-- ---- the first member with an id
module _ {A : Type 0} (key : A → ℕ) (other : A) where
  pub under_in : (w : A) (ws : List A) → Distinct (map key ws) → In w ws → under key other (key w) ws ≡ w
  unfolding under
  under_in w [] d h = absurd h
  under_in w (y ∷ ws) d (inl e) = rw (eq-eqb (key y) (key w) (ap key e)) e
  under_in w (y ∷ ws) (distinct∷ fresh d) (inr h) = rw (ne_eqb (key y) (key w) differ) (under_in w ws d h)
    where
      differ : key y ≡ key w → ⊥
      differ e = not_in (key y) (map key ws) fresh (subst (λ (v : ℕ). In v (map key ws)) (sym e) (in_map key w ws h))

  pub under_has : (id : ℕ) (P : A → Type 0) (ws : List A) → P other → ((w : A) → In w ws → P w) → P (under key other id ws)
  unfolding under
  under_has id P [] z h = z
  under_has id P (w ∷ ws) z h = go (eqb (key w) id) (h w (inl refl)) (under_has id P ws z (λ v k. h v (inr k)))
    where
      go : (b : Bool) → P w → P (under key other id ws) → P (cond b w (under key other id ws))
      go true p q = p
      go false p q = q

-- ---- through a map that keeps ids
module _ {A B : Type 0} (key : A → ℕ) (key' : B → ℕ) (g : A → B) (keeps : (a : A) → key' (g a) ≡ key a) (id : ℕ) where
  pub find_map : (ws : List A) → find key' id (map g ws) ≡ through g (find key id ws)
  unfolding find
  find_map [] = refl
  find_map (w ∷ ws) = rw (keeps w) (go (eqb (key w) id) (find_map ws))
    where
      go : (b : Bool) → find key' id (map g ws) ≡ through g (find key id ws)
          → cond b (some (g w)) (find key' id (map g ws)) ≡ through g (cond b (some w) (find key id ws))
      go true r = refl
      go false r = r

  pub without_map : (ws : List A) → without key' id (map g ws) ≡ map g (without key id ws)
  unfolding without
  without_map [] = refl
  without_map (w ∷ ws) = rw (keeps w) (go (eqb (key w) id) (without_map ws))
    where
      go : (b : Bool) → without key' id (map g ws) ≡ map g (without key id ws)
          → cond b (map g ws) (g w ∷ without key' id (map g ws)) ≡ map g (cond b ws (w ∷ without key id ws))
      go true r = refl
      go false r = ap (λ (x : List B). g w ∷ x) r

  pub changed_map : (f : A → A) (f' : B → B) → ((a : A) → f' (g a) ≡ g (f a)) → (ws : List A)
      → changed key' id f' (map g ws) ≡ map g (changed key id f ws)
  unfolding changed
  changed_map f f' h [] = refl
  changed_map f f' h (w ∷ ws) = rw (keeps w) (go (eqb (key w) id) (changed_map f f' h ws))
    where
      go : (b : Bool) → changed key' id f' (map g ws) ≡ map g (changed key id f ws)
          → cond b (f' (g w) ∷ map g ws) (g w ∷ changed key' id f' (map g ws)) ≡ map g (cond b (f w ∷ ws) (w ∷ changed key id f ws))
      go true r = ap (λ (x : B). x ∷ map g ws) (h w)
      go false r = ap (λ (x : List B). g w ∷ x) r
