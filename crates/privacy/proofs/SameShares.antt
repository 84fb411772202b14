-- The choice of random elements is moved so that a return of other values shows the same: a and b take the differences of f(r) and of
-- r g(r), and the share of the server that is left out takes that of the wholes. So the sums d and e stay, and so does every other
-- share, also that of server 0, which is the rest. Assumes nothing.
use mathlib.Core.Path.{◌≡◌, sym, ◌∙◌, ap}
use mathlib.Core.Logic.{◌≢◌}
use mathlib.Core.Bool.{true}
use mathlib.Core.List.{List}
use Prim.Native.Nat.{ℕ, suc, ◌+◌, ◌*◌, ◌<◌}
use native.Mathlib.Omega.{arith}
use lib.ListN.{length, get_or}
use Rattle.algebra.specs.Lists.{All}
use Rattle.algebra.specs.Ops.{Ops, Field, minus}
use Rattle.algebra.specs.Modulo.{modulo}
use Rattle.algebra.specs.Sums.{sum}
use Rattle.algebra.proofs.Tables.{get_d_tabulate, tabulate_cong}
use Rattle.algebra.proofs.Ring.{ring}
use Rattle.algebra.proofs.Residues.{positive}
use Rattle.rules.specs.Settings.{Setting, Facts}
use Rattle.rules.specs.Columns.{Column}
use Rattle.rules.specs.Values.{legal_values, encoding}
use Rattle.rules.specs.Judging.{share_size, added_up, d_sum, e_sum}
use Rattle.rules.specs.Making.{f_of, g_of, share_of, random_count, made_share}
use Rattle.rules.proofs.Returns.Elements.{field, R, value}
use Rattle.rules.proofs.Returns.Whole.{whole_at}
use Rattle.privacy.specs.Sight.{Case, columns}
use Rattle.privacy.specs.Hidden.{Fits}
use Rattle.privacy.proofs.Counting.{moved, below_moved}
use Rattle.privacy.proofs.Moving.{amount, Moved, is_moved}
use Rattle.privacy.proofs.ButOne.{ι, one_number, of_moved, rest_same}
use Rattle.privacy.proofs.MadeReturns.{made_shares, made_below, made_add_up, d_total, e_total}

-- the identities
module _ (𝓕 : Field) where
  open 𝓕.ops use {F, ◌⊕◌, ◌⊗◌, neg}

  infixl 65 ◌⊕◌
  infixl 70 ◌⊗◌
  id_whole : (w z : F) → w ≡ z ⊕ (w ⊕ neg z)
  id_whole w z = simp ring

  id_d : (f g a : F) → f ⊕ neg a ≡ g ⊕ neg (a ⊕ (g ⊕ neg f))
  id_d f g a = simp ring

  id_e : (r f g b : F) → r ⊗ f ⊕ neg b ≡ r ⊗ g ⊕ neg (b ⊕ r ⊗ (g ⊕ neg f))
  id_e r f g b = simp ring

module _ (σ : Setting) (facts : Facts σ) (c : Case) (fits : Fits σ c) (vs ws : List ℕ) (legal : legal_values (columns c) vs ≡ true)
    (legal' : legal_values (columns c) ws ≡ true) where
  abbrev p : ℕ
  p = σ.modulus

  abbrev cs : List Column
  cs = columns c

  abbrev O : Ops
  O = R σ facts

  abbrev F : Type 0
  F = O.F

  abbrev ◌⊕◌ : F → F → F
  ◌⊕◌ = O.◌⊕◌

  infixl 65 ◌⊕◌
  abbrev el : ℕ → F
  el = ι σ facts

  -- the entries of the two lists, and the challenge
  abbrev x : ℕ → F
  x e = el (get_or (encoding cs vs) e 0)

  abbrev y : ℕ → F
  y e = el (get_or (encoding cs ws) e 0)

  abbrev r : F
  r = el c.r

  -- what a, b and element e of the left-out share take, for u_0, v_0, a and b
  abbrev for_a : ℕ → F
  for_a u = minus O (f_of O σ cs y (el u) r) (f_of O σ cs x (el u) r)

  abbrev for_b : ℕ → F
  for_b v = O.◌⊗◌ r (minus O (g_of O σ cs y (el v) r) (g_of O σ cs x (el v) r))

  abbrev for_share : ℕ → ℕ → ℕ → ℕ → ℕ → F
  for_share u v a b e =
      minus O (whole_at O σ cs y (el u) (el v) (el a ⊕ for_a u) (el b ⊕ for_b v) e) (whole_at O σ cs x (el u) (el v) (el a) (el b) e)

  -- as numbers
  abbrev amount_a : ℕ → ℕ
  amount_a u = value σ facts (for_a u)

  abbrev amount_b : ℕ → ℕ
  amount_b v = value σ facts (for_b v)

  abbrev amount_share : ℕ → ℕ → ℕ → ℕ → ℕ → ℕ
  amount_share u v a b e = value σ facts (for_share u v a b e)

  abbrev pub amounts : List ℕ → ℕ
  amounts = amount p (share_size cs) c.left_out amount_a amount_b amount_share

  pub moved_below : (zs : List ℕ) → All (λ z. z < p) (moved p amounts zs)
  moved_below = below_moved p (positive p facts.prime) amounts

  module _ (zs : List ℕ) (many : length zs ≡ random_count c.servers cs) (random : All (λ z. z < p) zs) where
    abbrev zs' : List ℕ
    zs' = moved p amounts zs

    abbrev z : ℕ → ℕ
    z k = get_or zs k 0

    moves : Moved p (share_size cs) c.left_out amount_a amount_b amount_share c.servers zs zs'
    unfolding random_count
    moves =
        is_moved p (share_size cs) c.left_out amount_a amount_b amount_share c.servers zs many random (positive p facts.prime)

    a_is : el (get_or zs' 2 0) ≡ el (z 2) ⊕ for_a (z 0)
    a_is = ap el moves.a_moves ∙ of_moved σ facts (z 2) (for_a (z 0))

    b_is : el (get_or zs' 3 0) ≡ el (z 3) ⊕ for_b (z 1)
    b_is = ap el moves.b_moves ∙ of_moved σ facts (z 3) (for_b (z 1))

    -- ---- shares: element e of the two returns at server i
    abbrev one : ℕ → ℕ → ℕ
    one = made_shares σ facts c fits vs zs legal random

    abbrev two : ℕ → ℕ → ℕ
    two = made_shares σ facts c fits ws zs' legal' (moved_below zs)

    -- from server 1 on it is a random element
    own_random : (ts rs : List ℕ) (i e : ℕ) → e < share_size cs
        → get_or (made_share σ cs c.servers ts rs (suc i)) e 0 ≡ get_or rs (4 + i * share_size cs + e) 0
    unfolding share_of
    own_random ts rs i e m = get_d_tabulate _ (share_size cs) e 0 m

    later_stays : (i e : ℕ) → suc i < c.servers → e < share_size cs → suc i ≢ c.left_out → one (suc i) e ≡ two (suc i) e
    later_stays i e l m ne = own_random vs zs i e m ∙ sym (moves.share_stays i e l m ne) ∙ sym (own_random ws zs' i e m)

    later_moves : (i e : ℕ) → e < share_size cs → suc i ≡ c.left_out
        → el (two (suc i) e) ≡ el (one (suc i) e) ⊕ for_share (z 0) (z 1) (z 2) (z 3) e
    later_moves i e m q =
        ap el (own_random ws zs' i e m ∙ moves.share_moves i e (omega (arith, fits.is_server)) m q)
        ∙ of_moved σ facts (z (4 + i * share_size cs + e)) (for_share (z 0) (z 1) (z 2) (z 3) e)
        ∙ ap (λ n. el n ⊕ for_share (z 0) (z 1) (z 2) (z 3) e) (sym (own_random vs zs i e m))

    -- what they add up to
    sum_one : (e : ℕ) → sum O c.servers (λ i. el (one i e)) ≡ whole_at O σ cs x (el (z 0)) (el (z 1)) (el (z 2)) (el (z 3)) e
    unfolding added_up
    sum_one e = ap (λ (f : ℕ → F). f e) (made_add_up σ facts c fits vs zs legal random)

    sum_two : (e : ℕ) → sum O c.servers (λ i. el (two i e))
        ≡ whole_at O σ cs y (el (z 0)) (el (z 1)) (el (z 2) ⊕ for_a (z 0)) (el (z 3) ⊕ for_b (z 1)) e
    unfolding added_up
    sum_two e =
        ap (λ (f : ℕ → F). f e) (made_add_up σ facts c fits ws zs' legal' (moved_below zs))
        ∙ λ t. whole_at O σ cs y (el (moves.u_stays t)) (el (moves.v_stays t)) (a_is t) (b_is t) e

    element_same : (i e : ℕ) → i < c.servers → i ≢ c.left_out → e < share_size cs → one i e ≡ two i e
    element_same i e l ne m =
        one_number σ facts (one i e) (two i e) (made_below σ facts c fits vs zs legal random i e)
        (made_below σ facts c fits ws zs' legal' (moved_below zs) i e)
        (rest_same (field σ facts) c.servers (λ k. el (one k e)) (λ k. el (two k e)) (for_share (z 0) (z 1) (z 2) (z 3) e) c.left_out
        fits.is_server (λ k j d. ap el (later_stays k e j m d)) (λ k q. later_moves k e m q)
        (sum_two e ∙ id_whole (field σ facts) _ _ ∙ ap (◌⊕ for_share (z 0) (z 1) (z 2) (z 3) e) (sym (sum_one e))) i l ne)

    pub share_same : (i : ℕ) → i < c.servers → i ≢ c.left_out
        → made_share σ cs c.servers vs zs i ≡ made_share σ cs c.servers ws zs' i
    share_same i l ne =
        tabulate_cong _ _ (share_size cs) (λ e m.
        sym (get_d_tabulate _ (share_size cs) e 0 m) ∙ element_same i e l ne m ∙ get_d_tabulate _ (share_size cs) e 0 m)

    -- ---- the sums of round one
    pub d_same : d_sum (modulo p) σ cs c.servers one c.r ≡ d_sum (modulo p) σ cs c.servers two c.r
    d_same =
        d_total σ facts c fits vs zs legal random
        ∙ ap (value σ facts)
        (id_d (field σ facts) _ (f_of O σ cs y (el (z 0)) r) _
        ∙ λ t. minus O (f_of O σ cs y (el (sym moves.u_stays t)) r) (sym a_is t))
        ∙ sym (d_total σ facts c fits ws zs' legal' (moved_below zs))

    pub e_same : e_sum (modulo p) σ cs c.servers one c.r ≡ e_sum (modulo p) σ cs c.servers two c.r
    e_same =
        e_total σ facts c fits vs zs legal random
        ∙ ap (value σ facts)
        (id_e (field σ facts) r _ (g_of O σ cs y (el (z 1)) r) _
        ∙ λ t. minus O (O.◌⊗◌ r (g_of O σ cs y (el (sym moves.v_stays t)) r)) (sym b_is t))
        ∙ sym (e_total σ facts c fits ws zs' legal' (moved_below zs))
