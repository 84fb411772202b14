-- The numbers below a prime p, with sums and products taken modulo p, are a field; the value of an element is a map to
-- numbers modulo p that keeps the operations. Each law is that of ℕ under a remainder. Assumes nothing.
use mathlib.Core.Path.{◌≡◌, refl, sym, ◌∙◌, ap}
use mathlib.Core.Logic.{◌⊎◌, inl, inr, ◌≢◌}
use Prim.Native.Nat.{ℕ, zero, suc, ◌+◌, ◌-◌, ◌*◌, ◌%◌, ◌≤◌, ◌<◌, Fin}
use native.Mathlib.Nat.{mod-lt, mod-mod, mod-add-mod, add-mod-mod, mod-eq_of_lt, mod_self, zero-mod}
use native.Mathlib.Nat.{add_comm, add_assoc, add-zero, mul_comm, mul_assoc, mul-add, mul-one}
use native.Mathlib.Decide.{ℕ_discrete, Fin-discrete}
use native.Mathlib.Omega.{arith}
use Rattle.algebra.specs.Prime.{Prime}
use Rattle.algebra.specs.Ops.{Ops, Field, Hom}
use Rattle.algebra.specs.Modulo.{inverse_from, modulo}
use Rattle.algebra.proofs.Remainders.{mul_mod, mul_mod_mod, mod_mul_mod}
use Rattle.algebra.proofs.Inverse.{inverse_right, euclid}

module _ (p : ℕ) (prime : Prime p) where
  pub positive : 0 < p
  positive = let h : 1 < p = prime.above in omega arith

  -- the element that n leaves
  abbrev pub element : ℕ → Fin p
  element n = (n % p, mod-lt n positive)

  pub residue_ops : Ops
  residue_ops = record {
    F = Fin p;
    ◌⊕◌ = λ x y. element (x.0 + y.0);
    ◌⊗◌ = λ x y. element (x.0 * y.0);
    neg = λ x. element (p - x.0);
    𝟘 = element 0;
    𝟙 = element 1;
    inv = λ x. element (inverse_from p x.0 x.0);
    ι = element;
  }

  add_associates : (x y z : ℕ) → ((x + y) % p + z) % p ≡ (x + (y + z) % p) % p
  add_associates x y z = mod-add-mod (x + y) p z ∙ ap (λ (t : ℕ). t % p) (add_assoc x y z) ∙ sym (add-mod-mod x (y + z) p)

  mul_associates : (x y z : ℕ) → ((x * y) % p * z) % p ≡ (x * ((y * z) % p)) % p
  mul_associates x y z =
      mod_mul_mod (x * y) z p ∙ ap (λ (t : ℕ). t % p) (mul_assoc x y z) ∙ sym (mul_mod_mod x (y * z) p)

  distributes : (x y z : ℕ) → (x * ((y + z) % p)) % p ≡ ((x * y) % p + (x * z) % p) % p
  distributes x y z =
      mul_mod_mod x (y + z) p ∙ ap (λ (t : ℕ). t % p) (mul-add x y z) ∙ sym (add-mod-mod (x * y) (x * z) p)
      ∙ sym (mod-add-mod (x * y) p ((x * z) % p))

  cancels : (x : ℕ) → x < p → (x + (p - x) % p) % p ≡ 0 % p
  cancels x h =
      let whole : x + (p - x) ≡ p = omega arith in
      add-mod-mod x (p - x) p ∙ ap (λ (t : ℕ). t % p) whole ∙ mod_self p ∙ sym (zero-mod p)

  adds_one : (n : ℕ) → suc n % p ≡ (n % p + 1 % p) % p
  adds_one n =
      let next : suc n ≡ n + 1 = omega arith in
      ap (λ (t : ℕ). t % p) next ∙ sym (add-mod-mod n 1 p) ∙ sym (mod-add-mod n p (1 % p))

  one_apart : 1 % p ≡ 0 % p → ⊥
  one_apart e =
      let one : 1 % p ≡ 1 = mod-eq_of_lt prime.above in
      let none : 0 % p ≡ 0 = zero-mod p in
      omega arith

  -- an element whose value p divides is 0
  is_zero_lem : (x : Fin p) → x.0 % p ≡ 0 → x ≡ element 0
  is_zero_lem x h = native.Mathlib.Fin.val_path (sym (mod-eq_of_lt x.1) ∙ h ∙ sym (zero-mod p))

  above_zero : (x : Fin p) → x ≢ element 0 → 0 < x.0
  above_zero x ne = go (ℕ_discrete x.0 0)
    where
      go : Dec (x.0 ≡ 0) → 0 < x.0
      go (yes e) = absurd (ne (native.Mathlib.Fin.val_path (e ∙ sym (zero-mod p))))
      go (no e) = omega arith

  inverts : (x : Fin p) → x ≢ element 0 → (x.0 * (inverse_from p x.0 x.0 % p)) % p ≡ 1 % p
  inverts x ne =
      mul_mod_mod x.0 (inverse_from p x.0 x.0) p
      ∙ inverse_right p prime x.0 x.0 (omega arith) (above_zero x ne) x.1
      ∙ sym (mod-eq_of_lt prime.above)

  divides_one : (x y : Fin p) → (x.0 * y.0) % p ≡ 0 → (x ≡ element 0) ⊎ (y ≡ element 0)
  divides_one x y e = go (euclid p prime x.0 y.0 e)
    where
      go : (x.0 % p ≡ 0) ⊎ (y.0 % p ≡ 0) → (x ≡ element 0) ⊎ (y ≡ element 0)
      go (inl h) = inl (is_zero_lem x h)
      go (inr h) = inr (is_zero_lem y h)

  pub residues : Field
  unfolding residue_ops
  residues = record {
    ops = residue_ops;
    law_add_assoc = λ x y z. native.Mathlib.Fin.val_path (add_associates x.0 y.0 z.0);
    law_add_comm = λ x y. native.Mathlib.Fin.val_path (ap (λ (t : ℕ). t % p) (add_comm x.0 y.0));
    law_add_zero = λ x. native.Mathlib.Fin.val_path (add-mod-mod x.0 0 p ∙ ap (λ (t : ℕ). t % p) (add-zero x.0) ∙ mod-eq_of_lt x.1);
    law_add_neg = λ x. native.Mathlib.Fin.val_path (cancels x.0 x.1);
    law_mul_assoc = λ x y z. native.Mathlib.Fin.val_path (mul_associates x.0 y.0 z.0);
    law_mul_comm = λ x y. native.Mathlib.Fin.val_path (ap (λ (t : ℕ). t % p) (mul_comm x.0 y.0));
    law_mul_one = λ x. native.Mathlib.Fin.val_path (mul_mod_mod x.0 1 p ∙ ap (λ (t : ℕ). t % p) (mul-one x.0) ∙ mod-eq_of_lt x.1);
    law_mul_add = λ x y z. native.Mathlib.Fin.val_path (distributes x.0 y.0 z.0);
    law_ι_zero = refl;
    law_ι_suc = λ n. native.Mathlib.Fin.val_path (adds_one n);
    one_not_zero = λ e. one_apart (ap (λ (x : Fin p). x.0) e);
    dec = Fin-discrete p;
    no_zero_div = λ x y e. divides_one x y (ap (λ (z : Fin p). z.0) e ∙ zero-mod p);
    mul_inv = λ x ne. native.Mathlib.Fin.val_path (inverts x ne);
  }

  -- the value of an element keeps the operations
  pub to_numbers : Hom residues.ops (modulo p)
  unfolding residues residue_ops
  to_numbers = record {
    φ = λ x. x.0;
    add = λ a b. refl;
    mul = λ a b. refl;
    opp = λ a. refl;
    nil = zero-mod p;
    one = mod-eq_of_lt prime.above;
    rec = λ a. refl;
    num = λ n. refl;
  }

  -- the value of the element that a number below p leaves
  pub value_of : (n : ℕ) → n < p → to_numbers.φ (residues.ops.ι n) ≡ n
  unfolding to_numbers residues residue_ops
  value_of n h = mod-eq_of_lt h

  pub value_below : (x : residues.ops.F) → to_numbers.φ x < p
  unfolding to_numbers residues residue_ops
  value_below x = x.1

  -- an element is the one that its value leaves
  pub of_value : (x : residues.ops.F) → residues.ops.ι (to_numbers.φ x) ≡ x
  unfolding to_numbers residues residue_ops
  of_value x = native.Mathlib.Fin.val_path (mod-eq_of_lt x.1)

  pub value_zero : (x : residues.ops.F) → to_numbers.φ x ≡ 0 → x ≡ residues.ops.𝟘
  unfolding to_numbers residues residue_ops
  value_zero x e = native.Mathlib.Fin.val_path (e ∙ sym (zero-mod p))

  -- numbers below p that differ leave elements that differ
  pub points_apart : (i j : ℕ) → i < p → j < p → i ≢ j → residues.ops.ι i ≢ residues.ops.ι j
  points_apart i j hi hj ne e = ne (sym (value_of i hi) ∙ ap to_numbers.φ e ∙ value_of j hj)

  pub minus_one_is : residues.ops.ι (p - 1) ≡ residues.ops.neg residues.ops.𝟙
  unfolding residues residue_ops
  minus_one_is = native.Mathlib.Fin.val_path (ap (λ (t : ℕ). (p - t) % p) (sym (mod-eq_of_lt prime.above)))
