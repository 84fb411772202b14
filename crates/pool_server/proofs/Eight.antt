-- A call works on eight records, which are those lent or, where these are not eight, eight of an unknown stage. In the first case
-- both tables are one; in the second both are unsound, so the call is refused 11 on either and nothing changes. Assumes nothing.
use mathlib.Core.Path.{◌≡◌, refl, sym, ap, ◌∙◌, subst}
use mathlib.Core.Logic.{◌⊎◌, inl, inr}
use mathlib.Core.Bool.{Bool, true, false, cond}
use mathlib.Core.List.{List}
use Prim.Native.Nat.{ℕ, zero, suc, ◌<◌}
use native.Mathlib.Omega.{arith}
use lib.Dec.{eqb}
use lib.ListN.{length}
use Rattle.std.specs.Prelude.{Option, None, IfSome}
use Rattle.slots.specs.declared.Slot.{Slot}
use Rattle.slots.specs.declared.Change.{Change}
use Rattle.slots.specs.Slots.{eight_of, applied}
use Rattle.slots.proofs.Eight.{eight_is}
use Rattle.records.specs.Outcome.{or_else}
use Rattle.rules.specs.Settings.{document01}
use Rattle.rules.specs.Table.{Lent, table_sound, table_fault}
use Rattle.rules.proofs.Waiting.Records.{eight_sound, eight_of_sound}
use Rattle.waiting.specs.Changes.{lent, unless_refused, Changes}

-- a call whose refusals begin with the table's is refused 11 by an unsound one
pub unsound_refused : (rest : Lent → ℕ) (T : Lent) → table_sound document01 T ≡ false → or_else (table_fault document01 T) (rest T) ≡ 11
unfolding table_fault or_else
unsound_refused rest T e = rw e refl

module _ (fault : Lent → ℕ) (refuses : (T : Lent) → table_sound document01 T ≡ false → fault T ≡ 11)
    (t : List ℕ) (ys : List Slot) (es : List ℕ) where
  -- the table that the call works on, and the one that is lent
  abbrev worked : Lent
  worked = lent t (eight_of ys) es

  abbrev given : Lent
  given = lent t ys es

  eight_or_refused : (eight_of ys ≡ ys) ⊎ ((fault worked ≡ 11) × (fault given ≡ 11))
  eight_or_refused = go (table_sound document01 given) refl
    where
      go : (b : Bool) → table_sound document01 given ≡ b → (eight_of ys ≡ ys) ⊎ ((fault worked ≡ 11) × (fault given ≡ 11))
      go true e = inl (eight_is ys (eight_of_sound document01 t es ys e))
      go false e = inr (refuses worked (eight_sound document01 t es ys ∙ e), refuses given e)

  -- a choice by the refusal
  chosen : {A : Type 0} → (Lent → A) → A → Lent → A
  chosen f x T = cond (eqb (fault T) 0) (f T) x

  kept : {A : Type 0} (f : Lent → A) (x : A) (T : Lent) → fault T ≡ 11 → chosen f x T ≡ x
  unfolding chosen
  kept f x T e = ap (λ (n : ℕ). cond (eqb n 0) (f T) x) e

  same : {A : Type 0} (f : Lent → A) → eight_of ys ≡ ys → f worked ≡ f given
  same f e = ap (λ (xs : List Slot). f (lent t xs es)) e

  -- the refusal is the same, and so is what is left of a buffer or a number
  pub fault_same : fault worked ≡ fault given
  fault_same = elim eight_or_refused [ inl e ↦ same fault e | inr e ↦ e.0 ∙ sym e.1 ]

  pub left_same : {A : Type 0} (f : Lent → A) (x : A)
      → cond (eqb (fault worked) 0) (f worked) x ≡ cond (eqb (fault given) 0) (f given) x
  unfolding chosen
  left_same f x = elim eight_or_refused [
    | inl e ↦ same (chosen f x) e
    | inr e ↦ kept f x worked e.0 ∙ sym (kept f x given e.1)
  ]

  -- where the call is not refused there were eight
  was_eight : fault worked ≡ 0 → eight_of ys ≡ ys
  was_eight z = elim eight_or_refused [ inl e ↦ e | inr e ↦ absurd (let k : fault worked ≡ 11 = e.0 in omega (arith, k, z)) ]

  -- a call that answers r and does c to the list: one that is refused does nothing
  module _ (new : Lent → Lent) (r : ℕ) (c : Option Change) (tie : (r ≡ 0 → ⊥) → c ≡ None) (t' es' : List ℕ)
      (h : Changes (fault worked) (new worked) worked r c t' es') where
    pub answer_is : r ≡ fault given
    answer_is = h.refusal_is ∙ fault_same

    pub in_range : IfSome c (λ x. x.at < length ys)
    in_range = go r tie h.refusal_is
      where
        go : (n : ℕ) → ((n ≡ 0 → ⊥) → c ≡ None) → n ≡ fault worked → IfSome c (λ x. x.at < length ys)
        go zero k e = subst (λ (xs : List Slot). IfSome c (λ x. x.at < length xs)) (was_eight (sym e)) h.within
        go (suc n) k e = rw (k (λ z. omega arith)) tt

    -- the table that is left, in all its parts
    pub leaves : (ys' : List Slot) → ys' ≡ applied ys c → lent t' ys' es' ≡ unless_refused (fault given) (new given) given
    unfolding unless_refused chosen
    leaves ys' e = ap (λ (xs : List Slot). lent t' xs es') e ∙ elim eight_or_refused [ inl q ↦ done q | inr q ↦ none q ]
      where
        done : eight_of ys ≡ ys → lent t' (applied ys c) es' ≡ cond (eqb (fault given) 0) (new given) given
        done q =
            ap (λ (xs : List Slot). lent t' (applied xs c) es') (sym q)
            ∙ h.table_is
            ∙ ap (λ (xs : List Slot). cond (eqb (fault (lent t xs es)) 0) (new (lent t xs es)) (lent t xs es)) q

        none : (fault worked ≡ 11) × (fault given ≡ 11) → lent t' (applied ys c) es' ≡ cond (eqb (fault given) 0) (new given) given
        none q =
            let as-was : lent t' (applied (eight_of ys) c) es' ≡ worked = h.table_is ∙ kept new worked worked q.0 in
            let number : r ≡ 11 = h.refusal_is ∙ q.0 in
            ap (λ (o : Option Change). lent t' (applied ys o) es') (tie (λ z. omega (arith, number, z)))
            ∙ (λ i. lent (as-was i).bytes ys (as-was i).elements)
            ∙ sym (kept new given given q.1)
