-- The notes of the returns whose decision passes a test: each is that of such a return, their ids differ where all ids do, and they are
-- at most as many. By induction on the returns. Assumes nothing.
use mathlib.Core.Path.{◌≡◌, refl, ap, ◌∙◌, subst}
use mathlib.Core.Logic.{inl, inr, ◌≢◌}
use mathlib.Core.Bool.{Bool, true, false, cond}
use mathlib.Core.List.{List, [], ◌∷◌}
use Prim.Native.Nat.{ℕ, suc, ◌≤◌}
use native.Mathlib.Omega.{arith}
use lib.ListN.{length}
use Rattle.algebra.specs.Lists.{In, Distinct, distinct[], distinct∷}
use Rattle.algebra.proofs.Members.{in_all, in_map, of_map, all_in}
use Rattle.rules.specs.Ledger.{Note, Decision, Decided, notes_with, ids_of, notes_of}

module _ (t : Decision → Bool) where
  -- a return whose note is among them
  pub record From (n : Note) (ks : List Decided) : Type 0 where
    pub which : Decided
    pub is_in : In which ks
    pub is_note : which.note ≡ n
    pub passes : t which.decision ≡ true

  pub of_with : (n : Note) (ks : List Decided) → In n (notes_with t ks) → From n ks
  unfolding notes_with
  of_with n [] h = absurd h
  of_with n (k ∷ ks) h = go (t k.decision) refl h (of_with n ks)
    where
      later : From n ks → From n (k ∷ ks)
      later q = record { which = q.which; is_in = inr q.is_in; is_note = q.is_note; passes = q.passes }

      go : (b : Bool) → t k.decision ≡ b → In n (cond b (k.note ∷ notes_with t ks) (notes_with t ks))
          → (In n (notes_with t ks) → From n ks) → From n (k ∷ ks)
      go true e (inl a) r = record { which = k; is_in = inl refl; is_note = a; passes = e }
      go true e (inr a) r = later (r a)
      go false e a r = later (r a)

  pub with_of : (k : Decided) (ks : List Decided) → In k ks → t k.decision ≡ true → In k.note (notes_with t ks)
  unfolding notes_with
  with_of k [] h e = absurd h
  with_of k (q ∷ ks) (inl a) e =
      rw (ap (λ (v : Decided). t v.decision) a ∙ e) (inl (ap (λ (v : Decided). v.note) a))
  with_of k (q ∷ ks) (inr h) e = go (t q.decision) (with_of k ks h e)
    where
      go : (b : Bool) → In k.note (notes_with t ks) → In k.note (cond b (q.note ∷ notes_with t ks) (notes_with t ks))
      go true a = inr a
      go false a = a

  pub with_notes : (n : Note) (ks : List Decided) → In n (notes_with t ks) → In n (notes_of ks)
  with_notes n ks h =
      let q = of_with n ks h in
      subst (λ (v : Note). In v (notes_of ks)) q.is_note (in_map (λ (k : Decided). k.note) q.which ks q.is_in)

  pub with_distinct : (ks : List Decided) → Distinct (ids_of (notes_of ks)) → Distinct (ids_of (notes_with t ks))
  unfolding notes_with
  with_distinct [] d = distinct[]
  with_distinct (k ∷ ks) (distinct∷ fresh d) = go (t k.decision) (with_distinct ks d)
    where
      apart : (x : ℕ) → In x (ids_of (notes_with t ks)) → x ≢ k.note.id
      apart x h =
          let q = of_map (λ (n : Note). n.id) x (notes_with t ks) h in
          all_in x (ids_of (notes_of ks)) fresh
          (subst (λ (v : ℕ). In v (ids_of (notes_of ks))) q.2
          (in_map (λ (n : Note). n.id) q.0 (notes_of ks) (with_notes q.0 ks q.1)))

      go : (b : Bool) → Distinct (ids_of (notes_with t ks)) → Distinct (ids_of (cond b (k.note ∷ notes_with t ks) (notes_with t ks)))
      go true a = distinct∷ (in_all (ids_of (notes_with t ks)) apart) a
      go false a = a

  pub with_length : (ks : List Decided) → length (notes_with t ks) ≤ length ks
  unfolding notes_with
  with_length [] = omega arith
  with_length (k ∷ ks) = go (t k.decision) (with_length ks)
    where
      go : (b : Bool) → length (notes_with t ks) ≤ length ks
          → length (cond b (k.note ∷ notes_with t ks) (notes_with t ks)) ≤ suc (length ks)
      go true h = omega arith
      go false h = omega arith
