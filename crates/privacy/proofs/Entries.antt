-- Entries and values. The encoding of legal values is a valid list, and its shares are those that making makes of the values; a valid
-- list encodes legal values, and its shares are those of the values, as a whole is made of the sheet's entries alone. Assumes nothing.
use mathlib.Core.Path.{◌≡◌, refl, ◌∙◌, ap, ap₂}
use mathlib.Core.Bool.{true}
use mathlib.Core.List.{List, [], ◌∷◌, ◌++◌}
use Prim.Native.Nat.{ℕ, suc, ◌+◌, ◌-◌, ◌*◌, ◌<◌}
use native.Mathlib.Nat.{mod-eq_of_lt}
use native.Mathlib.Omega.{arith}
use lib.ListN.{get_or}
use Rattle.algebra.specs.Lists.{All, tabulate}
use Rattle.algebra.specs.Ops.{Ops}
use Rattle.algebra.specs.Modulo.{modulo}
use Rattle.algebra.specs.Interpolation.{interpolate}
use Rattle.algebra.proofs.Members.{all_map}
use Rattle.algebra.proofs.Tables.{tabulate_cong}
use Rattle.algebra.proofs.Residues.{positive}
use Rattle.rules.specs.Settings.{Setting, Facts}
use Rattle.rules.specs.Columns.{Column, entries_in}
use Rattle.rules.specs.Circuit.{gates_in}
use Rattle.rules.specs.Run.{on_list}
use Rattle.rules.specs.Walk.{less_one}
use Rattle.rules.specs.Values.{legal_values, encoding, Encodes}
use Rattle.rules.specs.Judging.{zero_then, share_size}
use Rattle.rules.specs.Making.{f_of, g_of, whole, share_of, made_share}
use Rattle.rules.proofs.Circuits.Encoding.{encoding_length, encoding_below, entry_below_modulus}
use Rattle.rules.proofs.Circuits.Legal.{sheet_tests_say_legal}
use Rattle.rules.proofs.Circuits.Limits.{InLimits}
use Rattle.rules.proofs.Circuits.Refusals.{sheet_read, sheet_limits_lem}
use Rattle.rules.proofs.Returns.EntriesRead.{inputs_left, inputs_right}
use Rattle.rules.proofs.Returns.HonestReturns.{encoding_valid}
use Rattle.rules.proofs.Returns.Shares.{get_d_below}
use Rattle.privacy.specs.Sight.{Case, columns, share_from}
use Rattle.privacy.specs.Hidden.{Fits, IsValid}

-- ---- a whole is made of the sheet's entries alone
module _ (O : Ops) (σ : Setting) (cs : List Column) (x y : ℕ → O.F) (same : (e : ℕ) → e < entries_in cs → x e ≡ y e) where
  f_same : (u r : O.F) → f_of O σ cs x u r ≡ f_of O σ cs y u r
  unfolding f_of
  f_same u r =
      ap (λ (l : List O.F). interpolate O (gates_in cs) (zero_then O u l) r)
      (inputs_left σ (on_list O x) (on_list O y) cs (λ k l m. same k m))

  g_same : (v r : O.F) → g_of O σ cs x v r ≡ g_of O σ cs y v r
  unfolding g_of less_one
  g_same v r =
      ap (λ (l : List O.F). interpolate O (gates_in cs) (zero_then O v l) r)
      (inputs_right σ (on_list O x) (on_list O y) cs (λ k l m. same k m)
      (λ k l m. ap (λ z. O.◌⊕◌ z (O.ι (σ.modulus - 1))) (same k m)))

  whole_same : (u v a b : O.F) → whole O σ cs x u v a b ≡ whole O σ cs y u v a b
  unfolding whole
  whole_same u v a b =
      ap₂ (λ (l h : List O.F). l ++ ((u ∷ v ∷ []) ++ (h ++ (a ∷ b ∷ O.◌⊗◌ a b ∷ []))))
      (tabulate_cong x y (entries_in cs) same)
      (tabulate_cong _ _ (suc (gates_in cs + gates_in cs)) (λ j l. ap₂ O.◌⊗◌ (f_same u (O.ι j)) (g_same v (O.ι j))))

-- ---- from values to entries
pub made_of_values : (σ : Setting) (c : Case) (vs zs : List ℕ) (i : ℕ)
    → share_from σ c (encoding (columns c) vs) zs i ≡ made_share σ (columns c) c.servers vs zs i
made_of_values σ c vs zs i = refl

module _ (σ : Setting) (facts : Facts σ) (c : Case) (fits : Fits σ c) where
  abbrev p : ℕ
  p = σ.modulus

  abbrev cs : List Column
  cs = columns c

  in_limits : All InLimits cs
  in_limits = (sheet_limits_lem c.sheet fits.is_read).in_limits

  pub valid_of_values : (vs : List ℕ) → legal_values cs vs ≡ true → IsValid σ c (encoding cs vs)
  valid_of_values vs legal = record {
    many = encoding_length cs vs legal;
    below = all_map (λ x l. omega (arith, facts.large)) (encoding_below cs vs in_limits legal);
    valid = encoding_valid σ facts cs in_limits vs legal;
  }

  -- ---- and back
  module _ (xs : List ℕ) (good : IsValid σ c xs) where
    pub encodes : Encodes (modulo p) cs (λ e. get_or xs e 0)
    encodes =
        (sheet_tests_say_legal σ facts cs (λ e. get_or xs e 0) (get_d_below p (positive p facts.prime) good.below) c.sheet
        (sheet_read c.sheet fits.is_read)).0 good.valid

    entry_same : (e : ℕ) → e < entries_in cs → get_or xs e 0 ≡ get_or (encoding cs encodes.values) e 0
    entry_same e l =
        encodes.entries_are e l
        ∙ mod-eq_of_lt (entry_below_modulus σ facts cs encodes.values in_limits encodes.legal e)

    pub made_same : (zs : List ℕ) (i : ℕ) → share_from σ c xs zs i ≡ made_share σ cs c.servers encodes.values zs i
    made_same zs i =
        ap (λ (w : List ℕ). tabulate
        (share_of (modulo p) c.servers (λ e. get_or w e 0) (λ j e. get_or zs (4 + j * share_size cs + e) 0) i) (share_size cs))
        (whole_same (modulo p) σ cs _ _ entry_same (get_or zs 0 0) (get_or zs 1 0) (get_or zs 2 0) (get_or zs 3 0))
