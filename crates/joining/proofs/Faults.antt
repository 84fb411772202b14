-- An answer by the number of its refusal, 0 for none: what the number says of the answer, and what an answer tells. Assumes nothing.
use mathlib.Core.Path.{◌≡◌, refl, sym}
use mathlib.Core.Bool.{Bool, true, false, cond}
use Prim.Native.Nat.{ℕ}
use borrow.Author.Tests.{ne_eqb, eqb-true}
use lib.Dec.{eqb}
use Rattle.records.specs.Outcome.{Outcome, ok, refused}
use Rattle.records.specs.Refusals.{number_of}
use Rattle.records.specs.declared.Refusal.{Refusal}
use Rattle.records.proofs.Refusals.{number_nonzero}

module _ {A : Type 0} where
  abbrev pub by_fault : ℕ → A → Outcome A
  by_fault f x = cond (eqb f 0) (ok x) (refused f)

  pub refused_by : (r : Refusal) (f : ℕ) (x : A) → number_of r ≡ f → refused (number_of r) ≡ by_fault f x
  refused_by r f x e = rw (sym e, ne_eqb (number_of r) 0 (number_nonzero r))

  pub done_by : (f : ℕ) (x y : A) → 0 ≡ f → y ≡ x → ok y ≡ by_fault f x
  done_by f x y e q = rw (sym e, q)

  refused_at : (b : Bool) (n f : ℕ) (x : A) → refused n ≡ cond b (ok x) (refused f) → n ≡ f
  refused_at true n f x e = cc
  refused_at false n f x e = cc

  done_at : (b : Bool) (f : ℕ) (x y : A) → ok y ≡ cond b (ok x) (refused f) → (b ≡ true) × (y ≡ x)
  done_at true f x y e = (refl, cc)
  done_at false f x y e = cc

  pub refused_told : (n f : ℕ) (x : A) → refused n ≡ by_fault f x → n ≡ f
  refused_told n f x e = refused_at (eqb f 0) n f x e

  pub done_told : (f : ℕ) (x y : A) → ok y ≡ by_fault f x → (f ≡ 0) × (y ≡ x)
  done_told f x y e =
      let d = done_at (eqb f 0) f x y e in
      (eqb-true f 0 d.0, d.1)
