-- The shares of a return that is made add up modulo p to the whole list, and each is as long and has elements below p.
-- Server 0's share is the rest, so that in the field the sum is the whole; the values of the elements are the numbers.
-- Assumes nothing.
use mathlib.Core.Path.{◌≡◌, refl, sym, ◌∙◌, ap, subst}
use mathlib.Core.List.{List}
use Prim.Native.Nat.{ℕ, zero, suc, ◌+◌, ◌-◌, ◌*◌, ◌%◌, ◌≤◌, ◌<◌}
use native.Mathlib.Nat.{mod-add-mod, mod-eq_of_lt, zero-mod}
use native.Mathlib.Decide.{dec_lt}
use native.Mathlib.Omega.{arith}
use lib.ListN.{length, get_or, get_or-eq_default}
use Rattle.algebra.specs.Lists.{All, all[], all∷}
use Rattle.algebra.specs.Ops.{Field}
use Rattle.algebra.specs.Modulo.{modulo}
use Rattle.algebra.specs.Sums.{sum}
use Rattle.algebra.proofs.Tables.{length_tabulate, get_d_tabulate}
use Rattle.algebra.proofs.Members.{all_tabulate}
use Rattle.algebra.proofs.Ring.{ring}
use Rattle.algebra.proofs.Sums.{sum_ext, sum_front}
use Rattle.algebra.proofs.Homs.{sum_hom}
use Rattle.algebra.proofs.Residues.{to_numbers, value_of, value_below, positive}
use Rattle.rules.specs.Settings.{Setting, Facts}
use Rattle.rules.specs.Columns.{Column, entries_in}
use Rattle.rules.specs.Values.{encoding}
use Rattle.rules.specs.Judging.{share_size, added_up}
use Rattle.rules.specs.Making.{whole, share_of, made_whole, made_share}
use Rattle.rules.proofs.Returns.JudgingHom.{get_d_hom}
use Rattle.rules.proofs.Returns.MakingHom.{whole_hom, share_of_hom}
use Rattle.rules.proofs.Returns.Elements.{field, R, value}
use Rattle.rules.proofs.Returns.Whole.{WholeParts, length_whole, whole_parts}

-- the theorem, for any values vs and the random elements zs
pub record Made (σ : Setting) (cs : List Column) (servers : ℕ) (vs zs : List ℕ) : Type 0 where
  pub whole_length : length (made_whole σ cs servers vs zs) ≡ share_size cs
  pub parts_are : WholeParts (modulo σ.modulus) σ cs (λ e. get_or (encoding cs vs) e 0)
      (get_or zs 0 0) (get_or zs 1 0) (get_or zs 2 0) (get_or zs 3 0)
  pub share_length_lem : (i : ℕ) → length (made_share σ cs servers vs zs i) ≡ share_size cs
  pub share_below : (i : ℕ) → All (λ n. n < σ.modulus) (made_share σ cs servers vs zs i)
  pub shares_add_up : (e : ℕ) → e < share_size cs
      → sum (modulo σ.modulus) servers (λ i. get_or (made_share σ cs servers vs zs i) e 0)
      ≡ get_or (made_whole σ cs servers vs zs) e 0 % σ.modulus

-- in a field
module _ (𝓕 : Field) where
  open 𝓕.ops use {F, ◌⊕◌, neg}

  infixl 65 ◌⊕◌
  id_rest : (w s : F) → w ⊕ neg s ⊕ s ≡ w
  id_rest w s = simp ring

  pub shares_add : (servers : ℕ) → 0 < servers → (w : ℕ → F) (z : ℕ → ℕ → F) (e : ℕ)
      → sum 𝓕.ops servers (λ i. share_of 𝓕.ops servers w z i e) ≡ w e
  unfolding share_of
  shares_add zero some w z e = absurd (omega arith)
  shares_add (suc n) some w z e =
      let less : suc n - 1 ≡ n = omega arith in
      sum_front 𝓕 n (λ i. share_of 𝓕.ops (suc n) w z i e)
      ∙ ap (λ m. w e ⊕ neg (sum 𝓕.ops m (λ i. z i e)) ⊕ sum 𝓕.ops n (λ i. z i e)) less
      ∙ id_rest (w e) _

-- a member of a list of numbers below p, or 0
pub get_d_below : (p : ℕ) → 0 < p → {l : List ℕ} → All (λ n. n < p) l → (i : ℕ) → get_or l i 0 < p
get_d_below p some all[] i = some
get_d_below p some (all∷ h hs) zero = h
get_d_below p some (all∷ h hs) (suc i) = get_d_below p some hs i

zeros_add : (p n : ℕ) → sum (modulo p) n (λ i. 0) ≡ 0
unfolding sum
zeros_add p zero = refl
zeros_add p (suc n) = ap (λ t. (t + 0) % p) (zeros_add p n) ∙ zero-mod p

-- at numbers: any list w, and shares z below p
module _ (σ : Setting) (facts : Facts σ) (servers : ℕ) (w : ℕ → ℕ) (z : ℕ → ℕ → ℕ)
    (below : (j e : ℕ) → z j e < σ.modulus) where
  abbrev p : ℕ
  p = σ.modulus

  rest_taken : (i e : ℕ) → share_of (modulo p) servers (λ e. w e % p) z i e ≡ share_of (modulo p) servers w z i e
  unfolding share_of
  rest_taken zero e = mod-add-mod (w e) p _
  rest_taken (suc i) e = refl

  number_value : (i e : ℕ)
      → value σ facts (share_of (R σ facts) servers (λ e. (R σ facts).ι (w e)) (λ j e. (R σ facts).ι (z j e)) i e)
      ≡ share_of (modulo p) servers w z i e
  number_value i e =
      share_of_hom (to_numbers p facts.prime) servers _ _ i e
      ∙ (λ t. share_of (modulo p) servers (λ e. (to_numbers p facts.prime).num (w e) t)
      (λ j e. value_of p facts.prime (z j e) (below j e) t) i e)
      ∙ rest_taken i e

  number_below : (i e : ℕ) → share_of (modulo p) servers w z i e < p
  number_below i e = subst (λ n. n < p) (number_value i e) (value_below p facts.prime _)

  numbers_sum : 0 < servers → (e : ℕ) → sum (modulo p) servers (λ i. share_of (modulo p) servers w z i e) ≡ w e % p
  numbers_sum some e =
      sym (sum_hom (to_numbers p facts.prime) servers _ ∙ sum_ext (modulo p) servers _ _ (λ i l. number_value i e))
      ∙ ap (value σ facts) (shares_add (field σ facts) servers some (λ e. (R σ facts).ι (w e)) _ e)
      ∙ (to_numbers p facts.prime).num (w e)

-- a return that is made of any values
module _ (σ : Setting) (facts : Facts σ) (cs : List Column) (servers : ℕ) (vs zs : List ℕ)
    (some : 0 < servers) (random : All (λ z. z < σ.modulus) zs) where
  abbrev q : ℕ
  q = σ.modulus

  random_below : (i : ℕ) → get_or zs i 0 < q
  random_below = get_d_below q (positive q facts.prime) random

  pub made : Made σ cs servers vs zs
  made = record {
    whole_length = length_whole (modulo q) σ cs _ _ _ _ _;
    parts_are = whole_parts (modulo q) σ cs _ _ _ _ _;
    share_length_lem = λ i. length_tabulate _ (share_size cs);
    share_below = λ i. all_tabulate _ (share_size cs) (λ e l. number_below σ facts servers _ _ share_random i e);
    shares_add_up = λ e l.
        sum_ext (modulo q) servers _ _ (λ i m. get_d_tabulate _ (share_size cs) e 0 l)
        ∙ numbers_sum σ facts servers (λ e. get_or (made_whole σ cs servers vs zs) e 0) _ share_random some e;
  }
    where
      share_random : (j e : ℕ) → get_or zs (4 + j * share_size cs + e) 0 < q
      share_random j e = random_below (4 + j * share_size cs + e)

  -- where the entries are below p, so is all of the whole: it is what the elements give
  module _ (entries : (e : ℕ) → get_or (encoding cs vs) e 0 < q) where
    abbrev ι : ℕ → (R σ facts).F
    ι = (R σ facts).ι

    -- the whole in the field
    abbrev pub whole_elements : List (R σ facts).F
    whole_elements =
        whole (R σ facts) σ cs (λ e. ι (get_or (encoding cs vs) e 0))
        (ι (get_or zs 0 0)) (ι (get_or zs 1 0)) (ι (get_or zs 2 0)) (ι (get_or zs 3 0))

    back : (n : ℕ) → n < q → value σ facts (ι n) ≡ n
    back = value_of q facts.prime

    pub whole_value : (e : ℕ) → value σ facts (get_or whole_elements e (R σ facts).𝟘) ≡ get_or (made_whole σ cs servers vs zs) e 0
    whole_value e =
        get_d_hom (to_numbers q facts.prime) whole_elements e
        ∙ ap (λ l. get_or l e 0) (whole_hom (to_numbers q facts.prime) σ cs _ _ _ _ _)
        ∙ λ t. get_or (whole (modulo q) σ cs (λ e. back (get_or (encoding cs vs) e 0) (entries e) t)
        (back (get_or zs 0 0) (random_below 0) t) (back (get_or zs 1 0) (random_below 1) t)
        (back (get_or zs 2 0) (random_below 2) t) (back (get_or zs 3 0) (random_below 3) t)) e 0

    pub whole_below : (e : ℕ) → get_or (made_whole σ cs servers vs zs) e 0 < q
    whole_below e = subst (λ n. n < q) (whole_value e) (value_below q facts.prime _)

    -- the added-up share is the whole
    pub added_is_whole : (e : ℕ)
        → added_up (modulo q) σ cs servers (λ i e. get_or (made_share σ cs servers vs zs i) e 0) e
        ≡ get_or (made_whole σ cs servers vs zs) e 0
    unfolding added_up
    added_is_whole e = go (dec_lt e (share_size cs))
      where
        past_share : (e < share_size cs → ⊥) → (i : ℕ) → get_or (made_share σ cs servers vs zs i) e 0 ≡ 0
        past_share l i =
            let past : length (made_share σ cs servers vs zs i) ≤ e = omega (arith, made.share_length_lem i) in
            get_or-eq_default (made_share σ cs servers vs zs i) 0 past

        go : Dec (e < share_size cs)
            → sum (modulo q) servers (λ i. get_or (made_share σ cs servers vs zs i) e 0) ≡ get_or (made_whole σ cs servers vs zs) e 0
        go (yes l) = made.shares_add_up e l ∙ mod-eq_of_lt (whole_below e)
        go (no l) =
            let past : length (made_whole σ cs servers vs zs) ≤ e = omega (arith, made.whole_length) in
            sum_ext (modulo q) servers _ _ (λ i m. past_share l i)
            ∙ zeros_add q servers
            ∙ sym (get_or-eq_default (made_whole σ cs servers vs zs) 0 past)

    pub entries_add_up : (e : ℕ) → e < entries_in cs
        → added_up (modulo q) σ cs servers (λ i e. get_or (made_share σ cs servers vs zs i) e 0) e ≡ get_or (encoding cs vs) e 0
    entries_add_up e l = added_is_whole e ∙ made.parts_are.entry_is e l
