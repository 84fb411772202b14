-- The numbers of the two rounds from the walk over the columns: the run of the circuit is the walk, and g is f, corrected, where
-- the constant p - 1 at a server is the server's factor times it. Assumes nothing.
use mathlib.Core.Path.{◌≡◌, sym, ap, ap₂, ◌∙◌}
use mathlib.Core.List.{List}
use Prim.Native.Nat.{ℕ, suc, ◌+◌, ◌-◌, ◌≤◌, ◌<◌}
use native.Mathlib.Omega.{arith}
use lib.ListN.{length, take, drop}
use lib.Seq.{get_or-take, get_or-drop}
use Rattle.algebra.specs.Ops.{minus}
use Rattle.algebra.specs.Interpolation.{basis, interpolate}
use Rattle.algebra.proofs.Sums.{sum_ext}
use Rattle.field.specs.Residues.{prime, residues, Elements}
use Rattle.field.proofs.Below.{member_below}
use Rattle.rules.specs.Settings.{document01}
use Rattle.rules.specs.Columns.{Column, entries_in}
use Rattle.rules.specs.Circuit.{gates_in}
use Rattle.rules.specs.Run.{at_server}
use Rattle.rules.specs.Judging.{zero_then, folded, h_of, a_of, b_of, share_run, f_at, g_at, h_at, d_of, e_of, tau_of}
use Rattle.rules.specs.Walk.{walk_tests}
use Rattle.rules.specs.Products.{corrected}
use Rattle.rules.proofs.Computed.Facts.{document01_facts}
use Rattle.rules.proofs.Circuits.Walk.{walk_is_run}
use Rattle.rules.proofs.Returns.ProductsHom.{judged_right}
use Rattle.walk.specs.Walks.{shared, members}
use Rattle.walk.proofs.Meanings.{server_lefts}
use Rattle.snip.specs.Judged.{left_at}

module _ (cs : List Column) (k : ℕ) (xs : List ℕ) where
  abbrev x : ℕ → ℕ
  x = members xs

  abbrev constant : ℕ
  constant = residues.◌⊗◌ k 2147483646

  f_is : (r : ℕ) → left_at cs (entries_in cs) xs r ≡ f_at residues document01 cs k x r
  unfolding f_at share_run
  f_is r =
      ap (λ (l : List ℕ). interpolate residues (gates_in cs) (zero_then residues (x (entries_in cs)) l) r)
      (sym
      ((walk_is_run document01 (at_server residues k x (h_of residues document01 cs x)) cs).lefts_are
      ∙ server_lefts k x (h_of residues document01 cs x) cs))

  g_is : (r : ℕ) → Elements xs → gates_in cs ≤ 256 → k < prime → r < prime
      → corrected residues constant x cs (left_at cs (entries_in cs) xs r) (x (entries_in cs)) (x (entries_in cs + 1)) r
      ≡ g_at residues document01 cs k x r
  g_is r elements few k-below r_below =
      ap (λ f. corrected residues constant x cs f (x (entries_in cs)) (x (entries_in cs + 1)) r) (f_is r)
      ∙ sym (judged_right document01 document01_facts cs few x (λ i. member_below xs i elements) k r k-below r_below)

  pub tau_is : (s : ℕ)
      → folded residues (walk_tests document01 (shared k (entries_in cs) xs) 0 0 cs) s
      ≡ tau_of residues document01 cs k x s
  unfolding tau_of share_run h_of
  tau_is s =
      ap (λ (l : List ℕ). folded residues l s)
      (sym (walk_is_run document01 (at_server residues k x (h_of residues document01 cs x)) cs).tests_are)

  -- h at r, from the members behind the entries and two more
  pub h_is : (ys : List ℕ) (r : ℕ) → ys ≡ take (suc (gates_in cs + gates_in cs)) (drop (entries_in cs + 2) xs)
      → length ys ≡ suc (gates_in cs + gates_in cs)
      → interpolate residues (length ys - 1) (members ys) r ≡ h_at residues document01 cs x r
  unfolding h_at h_of interpolate
  h_is ys r e q =
      let n = gates_in cs + gates_in cs in
      let t : length ys - 1 ≡ n = omega arith in
      ap (λ k. interpolate residues k (members ys) r) t
      ∙ sum_ext residues (suc n) _ _
      (λ j l. ap (λ v. residues.◌⊗◌ v (basis residues n j r))
      (ap (λ (l : List ℕ). members l j) e
      ∙ get_or-take (suc n) (drop (entries_in cs + 2) xs) j 0 l
      ∙ get_or-drop (entries_in cs + 2) xs j 0))

  -- as code has them: l and m are the counts, c is the constant
  module _ (l m c : ℕ) (el : l ≡ entries_in cs) (em : m ≡ gates_in cs) (ec : c ≡ residues.◌⊗◌ k 2147483646) where
    pub d_from : (r f v : ℕ)
        → f ≡ left_at cs l xs r → v ≡ minus residues f (x (l + 3 + (m + m))) → v ≡ d_of residues document01 cs k x r
    unfolding d_of a_of
    d_from r f v p q =
        q
        ∙ ap₂ (minus residues)
        (p ∙ ap (λ i. left_at cs i xs r) el ∙ f_is r)
        (ap₂ (λ i j. x (i + 3 + (j + j))) el em)

    pub e_from : (r g w v : ℕ) → Elements xs → gates_in cs ≤ 256 → k < prime → r < prime
        → g ≡ corrected residues c x cs (left_at cs l xs r) (x l) (x (l + 1)) r
        → w ≡ residues.◌⊗◌ r g → v ≡ minus residues w (x (l + 3 + (m + m) + 1)) → v ≡ e_of residues document01 cs k x r
    unfolding e_of b_of
    e_from r g w v elements few k-below r_below p q u =
        u
        ∙ ap₂ (minus residues)
        (q
        ∙ ap (residues.◌⊗◌ r)
        (p
        ∙ ap₂ (λ i n. corrected residues n x cs (left_at cs i xs r) (x i) (x (i + 1)) r) el ec
        ∙ g_is r elements few k-below r_below))
        (ap x (let a : l + 3 + (m + m) + 1 ≡ entries_in cs + 4 + (gates_in cs + gates_in cs) = omega arith in a))

    pub h_from : (r h v : ℕ) (ys : List ℕ) → ys ≡ take (l + 3 + (m + m) - (l + 2)) (drop (l + 2) xs)
        → length ys ≡ suc (m + m) → h ≡ interpolate residues (length ys - 1) (members ys) r → v ≡ residues.◌⊗◌ r h
        → v ≡ residues.◌⊗◌ r (h_at residues document01 cs x r)
    h_from r h v ys p n q u =
        let w : l + 3 + (m + m) - (l + 2) ≡ suc (gates_in cs + gates_in cs) = omega arith in
        u
        ∙ ap (residues.◌⊗◌ r)
        (q ∙ h_is ys r (p ∙ ap₂ (λ i j. take i (drop (j + 2) xs)) w el) (n ∙ ap (λ j. suc (j + j)) em))

    pub tau_from : (s v j : ℕ) → j ≡ k → v ≡ folded residues (walk_tests document01 (shared j l xs) 0 0 cs) s
        → v ≡ tau_of residues document01 cs k x s
    tau_from s v j q p =
        p
        ∙ ap₂ (λ n i. folded residues (walk_tests document01 (shared n i xs) 0 0 cs) s) q el
        ∙ tau_is s
