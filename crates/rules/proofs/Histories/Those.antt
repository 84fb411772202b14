-- Lists whose members have an id, and those members for which a test holds. Each of them is a member that passes; looking up, changing
-- and taking out an id see only those of the id, and leave those of another id alone. By induction on the list. Assumes nothing.
use mathlib.Core.Path.{◌≡◌, refl, sym, ap, ◌∙◌, subst}
use mathlib.Core.Logic.{◌≢◌, inl, inr}
use mathlib.Core.Bool.{Bool, true, false, cond, ◌||◌}
use mathlib.Core.List.{List, [], ◌∷◌, ◌++◌, map}
use mathlib.Core.Option.{some}
use Prim.Native.Nat.{ℕ, suc, ◌≤◌}
use native.Mathlib.Omega.{arith}
use borrow.Author.Tests.{eqb-true, ne_eqb}
use lib.Dec.{eqb}
use lib.ListN.{length}
use Rattle.algebra.specs.Lists.{In}
use Rattle.rules.specs.Server.{is_member}
use Rattle.rules.specs.Keyed.{find, without, changed, those}

module _ {A : Type 0} (t : A → Bool) where
  pub those_here : (a : A) (s : List A) → t a ≡ true → those t (a ∷ s) ≡ a ∷ those t s
  unfolding those
  those_here a s e = rw e refl

  pub those_not : (a : A) (s : List A) → t a ≡ false → those t (a ∷ s) ≡ those t s
  unfolding those
  those_not a s e = rw e refl

  pub those_end : (s : List A) (a : A) → those t (s ++ (a ∷ [])) ≡ those t s ++ cond (t a) (a ∷ []) []
  unfolding those
  those_end [] a = refl
  those_end (x ∷ s) a = go (t x) (those_end s a)
    where
      go : (b : Bool) → those t (s ++ (a ∷ [])) ≡ those t s ++ cond (t a) (a ∷ []) []
          → cond b (x ∷ those t (s ++ (a ∷ []))) (those t (s ++ (a ∷ []))) ≡ cond b (x ∷ those t s) (those t s) ++ cond (t a) (a ∷ []) []
      go true r = ap (λ (v : List A). x ∷ v) r
      go false r = r

  -- a member that passes
  pub of_those : (ws : List A) (p : A) → In p (those t ws) → In p ws × (t p ≡ true)
  unfolding those
  of_those [] p h = absurd h
  of_those (w ∷ ws) p h = go (t w) refl h (of_those ws p)
    where
      go : (b : Bool) → t w ≡ b → In p (cond b (w ∷ those t ws) (those t ws)) → (In p (those t ws) → In p ws × (t p ≡ true))
          → In p (w ∷ ws) × (t p ≡ true)
      go true e (inl q) r = (inl q, subst (λ (v : A). t v ≡ true) q e)
      go true e (inr q) r = (inr (r q).0, (r q).1)
      go false e q r = (inr (r q).0, (r q).1)

  pub in_those : (ws : List A) (p : A) → In p ws → t p ≡ true → In p (those t ws)
  unfolding those
  in_those [] p h e = absurd h
  in_those (w ∷ ws) p (inl q) e = subst (λ (b : Bool). In p (cond b (w ∷ those t ws) (those t ws))) (sym (ap t q ∙ e)) (inl q)
  in_those (w ∷ ws) p (inr q) e = go (t w) (in_those ws p q e)
    where
      go : (b : Bool) → In p (those t ws) → In p (cond b (w ∷ those t ws) (those t ws))
      go true k = inr k
      go false k = k

  -- where all pass these are all
  pub those_all : (ws : List A) → ((p : A) → In p ws → t p ≡ true) → those t ws ≡ ws
  unfolding those
  those_all [] h = refl
  those_all (w ∷ ws) h = rw (h w (inl refl)) (ap (λ (v : List A). w ∷ v) (those_all ws (λ p k. h p (inr k))))

  pub those_few : (s : List A) → length (those t s) ≤ length s
  unfolding those
  those_few [] = omega arith
  those_few (x ∷ s) = go (t x) (those_few s)
    where
      go : (b : Bool) → length (those t s) ≤ length s → length (cond b (x ∷ those t s) (those t s)) ≤ suc (length s)
      go true h = omega arith
      go false h = omega arith

module _ {A : Type 0} (key : A → ℕ) (x : ℕ) where
  abbrev mine : A → Bool
  mine a = eqb (key a) x

  -- the id itself
  pub find_those : (ws : List A) → find key x (those mine ws) ≡ find key x ws
  unfolding find those
  find_those [] = refl
  find_those (w ∷ ws) = go (eqb (key w) x) refl (find_those ws)
    where
      go : (b : Bool) → eqb (key w) x ≡ b → find key x (those mine ws) ≡ find key x ws
          → find key x (cond b (w ∷ those mine ws) (those mine ws)) ≡ cond b (some w) (find key x ws)
      go true e r = rw e refl
      go false e r = r

  pub without_those : (ws : List A) → without key x (those mine ws) ≡ those mine (without key x ws)
  unfolding without those
  without_those [] = refl
  without_those (w ∷ ws) = go (eqb (key w) x) refl (without_those ws)
    where
      go : (b : Bool) → eqb (key w) x ≡ b → without key x (those mine ws) ≡ those mine (without key x ws)
          → without key x (cond b (w ∷ those mine ws) (those mine ws)) ≡ those mine (cond b ws (w ∷ without key x ws))
      go true e r = rw e refl
      go false e r = rw e r

  pub changed_those : (f : A → A) → ((a : A) → key (f a) ≡ key a) → (ws : List A)
      → changed key x f (those mine ws) ≡ those mine (changed key x f ws)
  unfolding changed those
  changed_those f h [] = refl
  changed_those f h (w ∷ ws) = go (eqb (key w) x) refl (changed_those f h ws)
    where
      go : (b : Bool) → eqb (key w) x ≡ b → changed key x f (those mine ws) ≡ those mine (changed key x f ws)
          → changed key x f (cond b (w ∷ those mine ws) (those mine ws)) ≡ those mine (cond b (f w ∷ ws) (w ∷ changed key x f ws))
      go true e r = rw (e, h w, e) refl
      go false e r = rw e r

  pub member_those : (ws : List A) → is_member x (map key (those mine ws)) ≡ is_member x (map key ws)
  unfolding is_member those
  member_those [] = refl
  member_those (w ∷ ws) = go (eqb (key w) x) refl (member_those ws)
    where
      go : (b : Bool) → eqb (key w) x ≡ b → is_member x (map key (those mine ws)) ≡ is_member x (map key ws)
          → is_member x (map key (cond b (w ∷ those mine ws) (those mine ws))) ≡ (b || is_member x (map key ws))
      go true e r = rw e refl
      go false e r = r

  -- another id
  module _ (id : ℕ) (other : id ≢ x) where
    away : (w : A) → eqb (key w) id ≡ true → eqb (key w) x ≡ false
    away w e = ne_eqb _ _ (λ q. other (sym (eqb-true _ _ e) ∙ q))

    pub without_other : (ws : List A) → those mine (without key id ws) ≡ those mine ws
    unfolding without those
    without_other [] = refl
    without_other (w ∷ ws) = go (eqb (key w) id) refl (without_other ws)
      where
        go : (b : Bool) → eqb (key w) id ≡ b → those mine (without key id ws) ≡ those mine ws
            → those mine (cond b ws (w ∷ without key id ws)) ≡ those mine (w ∷ ws)
        go true e r = sym (those_not mine w ws (away w e))
        go false e r = ap (λ (v : List A). cond (eqb (key w) x) (w ∷ v) v) r

    pub changed_other : (f : A → A) → ((a : A) → key (f a) ≡ key a) → (ws : List A)
        → those mine (changed key id f ws) ≡ those mine ws
    unfolding changed those
    changed_other f h [] = refl
    changed_other f h (w ∷ ws) = go (eqb (key w) id) refl (changed_other f h ws)
      where
        go : (b : Bool) → eqb (key w) id ≡ b → those mine (changed key id f ws) ≡ those mine ws
            → those mine (cond b (f w ∷ ws) (w ∷ changed key id f ws)) ≡ those mine (w ∷ ws)
        go true e r =
            those_not mine (f w) ws (ap (λ (k : ℕ). eqb k x) (h w) ∙ away w e) ∙ sym (those_not mine w ws (away w e))
        go false e r = ap (λ (v : List A). cond (eqb (key w) x) (w ∷ v) v) r

    pub find_without : (ws : List A) → find key x (without key id ws) ≡ find key x ws
    find_without ws = sym (find_those (without key id ws)) ∙ ap (find key x) (without_other ws) ∙ find_those ws

    pub find_changed : (f : A → A) → ((a : A) → key (f a) ≡ key a) → (ws : List A)
        → find key x (changed key id f ws) ≡ find key x ws
    find_changed f h ws =
        sym (find_those (changed key id f ws)) ∙ ap (find key x) (changed_other f h ws) ∙ find_those ws
