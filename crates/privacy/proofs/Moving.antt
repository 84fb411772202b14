-- A choice of random elements, moved: a by an amount that u_0 decides, b by one that v_0 decides, and each element of one server's
-- share by one that these four decide; all else stays. How many elements stand before a place tells which it is. Assumes nothing.
use mathlib.Core.Path.{◌≡◌, ◌∙◌, ap}
use mathlib.Core.Logic.{◌≢◌}
use mathlib.Core.Bool.{Bool, true, false, cond}
use mathlib.Core.List.{List}
use Prim.Native.Nat.{ℕ, zero, suc, ◌+◌, ◌-◌, ◌*◌, ◌/◌, ◌%◌, ◌≤◌, ◌<◌}
use native.Mathlib.Nat.{add-zero, add_comm, mul-le-mul_right, mod-eq_of_lt, div-eq_of_lt, add-mul-div_right, mul-add-mod_self_right}
use native.Mathlib.Omega.{arith}
use borrow.Author.Tests.{eq-eqb, ne_eqb}
use lib.Dec.{eqb}
use lib.ListN.{length, get_or, take}
use lib.Seq.{length-take-le, get_or-take}
use Rattle.algebra.specs.Lists.{All}
use Rattle.rules.proofs.Returns.Shares.{get_d_below}
use Rattle.privacy.proofs.Counting.{moved, moved_at}

-- The amounts for a and b, and for element e of the share of server `mover`, where a share has `size` elements
module _ (p size mover : ℕ) (for_a for_b : ℕ → ℕ) (for_share : ℕ → ℕ → ℕ → ℕ → ℕ → ℕ) where
  -- at place k, where u_0, v_0, a and b are as given
  amount_at : ℕ → ℕ → ℕ → ℕ → ℕ → ℕ
  amount_at zero u v a b = 0
  amount_at (suc zero) u v a b = 0
  amount_at (suc (suc zero)) u v a b = for_a u
  amount_at (suc (suc (suc zero))) u v a b = for_b v
  amount_at (suc (suc (suc (suc k)))) u v a b = cond (eqb (suc (k / size)) mover) (for_share u v a b (k % size)) 0

  pub amount : List ℕ → ℕ
  amount before = amount_at (length before) (get_or before 0 0) (get_or before 1 0) (get_or before 2 0) (get_or before 3 0)

  -- where element e of the share of server i + 1 stands
  abbrev pub place : ℕ → ℕ → ℕ
  place i e = 4 + i * size + e

  -- the choice zs, moved to zs'
  pub record Moved (servers : ℕ) (zs zs' : List ℕ) : Type 0 where
    pub u_stays : get_or zs' 0 0 ≡ get_or zs 0 0
    pub v_stays : get_or zs' 1 0 ≡ get_or zs 1 0
    pub a_moves : get_or zs' 2 0 ≡ (get_or zs 2 0 + for_a (get_or zs 0 0)) % p
    pub b_moves : get_or zs' 3 0 ≡ (get_or zs 3 0 + for_b (get_or zs 1 0)) % p
    pub share_stays : (i e : ℕ) → suc i < servers → e < size → suc i ≢ mover → get_or zs' (place i e) 0 ≡ get_or zs (place i e) 0
    pub share_moves : (i e : ℕ) → suc i < servers → e < size → suc i ≡ mover
        → get_or zs' (place i e) 0
        ≡ (get_or zs (place i e) 0 + for_share (get_or zs 0 0) (get_or zs 1 0) (get_or zs 2 0) (get_or zs 3 0) e) % p

  module _ (servers : ℕ) (zs : List ℕ) (many : length zs ≡ (servers - 1) * size + 4) (below : All (λ z. z < p) zs) (some : 0 < p) where
    abbrev zs' : List ℕ
    zs' = moved p amount zs

    abbrev z : ℕ → ℕ
    z k = get_or zs k 0

    -- element j of those before place k
    abbrev early : ℕ → ℕ → ℕ
    early k j = get_or (take k zs) j 0

    at : (k : ℕ) → k < length zs → get_or zs' k 0 ≡ (z k + amount_at k (early k 0) (early k 1) (early k 2) (early k 3)) % p
    unfolding amount
    at k l =
        moved_at p amount zs k l
        ∙ ap (λ n. (z k + amount_at n (early k 0) (early k 1) (early k 2) (early k 3)) % p) (length-take-le k zs (omega arith))

    by_none : (k : ℕ) → (z k + 0) % p ≡ z k
    by_none k = ap (λ n. n % p) (add-zero (z k)) ∙ mod-eq_of_lt (get_d_below p some below k)

    module _ (i e : ℕ) (l : suc i < servers) (m : e < size) where
      abbrev here : ℕ
      here = place i e

      within : here < length zs
      within = let rows : suc i * size ≤ (servers - 1) * size = mul-le-mul_right size (omega arith) in omega arith

      -- behind the first four, the share and the place in it
      row : (i * size + e) / size ≡ i
      row =
          let up : 0 < size = omega arith in
          let none : 0 + i ≡ i = omega arith in
          ap (λ n. n / size) (add_comm (i * size) e) ∙ add-mul-div_right e i up ∙ ap (λ n. n + i) (div-eq_of_lt m) ∙ none

      column : (i * size + e) % size ≡ e
      column = mul-add-mod_self_right i size e ∙ mod-eq_of_lt m

      share_at_lem : (b : Bool) → eqb (suc i) mover ≡ b → get_or zs' here 0 ≡ (z here + cond b (for_share (z 0) (z 1) (z 2) (z 3) e) 0) % p
      unfolding amount_at
      share_at_lem b is =
          at here within
          ∙ (λ t. (z here + amount_at (behind t) (before 0 (omega arith) t) (before 1 (omega arith) t) (before 2 (omega arith) t)
          (before 3 (omega arith) t)) % p)
          ∙ (λ t. (z here + cond (eqb (suc (row t)) mover) (for_share (z 0) (z 1) (z 2) (z 3) (column t)) 0) % p)
          ∙ ap (λ d. (z here + cond d (for_share (z 0) (z 1) (z 2) (z 3) e) 0) % p) is
        where
          behind : here ≡ suc (suc (suc (suc (i * size + e))))
          behind = omega arith

          before : (j : ℕ) → j < 4 → early here j ≡ z j
          before j h = get_or-take here zs j 0 (omega arith)

    pub is_moved : Moved servers zs zs'
    unfolding amount_at
    is_moved = record {
      u_stays = at 0 (omega arith) ∙ by_none 0;
      v_stays = at 1 (omega arith) ∙ by_none 1;
      a_moves = at 2 (omega arith) ∙ ap (λ n. (z 2 + for_a n) % p) (get_or-take 2 zs 0 0 (omega arith));
      b_moves = at 3 (omega arith) ∙ ap (λ n. (z 3 + for_b n) % p) (get_or-take 3 zs 1 0 (omega arith));
      share_stays = λ i e l m ne. share_at_lem i e l m false (ne_eqb (suc i) mover ne) ∙ by_none (place i e);
      share_moves = λ i e l m q. share_at_lem i e l m true (eq-eqb (suc i) mover q);
    }
