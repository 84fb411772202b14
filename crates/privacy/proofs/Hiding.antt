-- The claim. For two lists of legal values the choices are moved one to one (`SameShares`) so that the sight stays (`SameSight`), and
-- choices so moved are counted the same (`Counting`). A valid list of entries makes what the values that it encodes make (`Entries`).
-- Assumes nothing.
use mathlib.Core.Path.{◌≡◌, refl, sym, ◌∙◌, ap, subst}
use mathlib.Core.Bool.{Bool, true}
use mathlib.Core.List.{List}
use Prim.Native.Nat.{ℕ, ◌<◌}
use lib.ListN.{length}
use Rattle.algebra.specs.Lists.{All}
use Rattle.rules.specs.Settings.{Setting, Facts, document01}
use Rattle.rules.specs.Columns.{Column}
use Rattle.rules.specs.Values.{legal_values, encoding}
use Rattle.rules.specs.Making.{random_count, made_share}
use Rattle.rules.proofs.Computed.Facts.{document01_facts}
use Rattle.privacy.specs.Sight.{Case, columns, share_from, sight, same_sight}
use Rattle.privacy.specs.Hidden.{Fits, choices_of, IsValid, Hidden}
use Rattle.privacy.proofs.Counting.{count_same, moved, count_moved, count_some}
use Rattle.privacy.proofs.MadeReturns.{both_zero_lem}
use Rattle.privacy.proofs.SameShares.{amounts, moved_below, share_same, d_same, e_same}
use Rattle.privacy.proofs.Sights.{equal_sight}
use Rattle.privacy.proofs.SameSight.{same_sight_lem}
use Rattle.privacy.proofs.Entries.{valid_of_values, encodes, made_same}

module _ (σ : Setting) (facts : Facts σ) (c : Case) (fits : Fits σ c) where
  abbrev p : ℕ
  p = σ.modulus

  abbrev cs : List Column
  cs = columns c

  abbrev n : ℕ
  n = random_count c.servers cs

  -- ---- two lists of legal values
  module _ (vs ws : List ℕ) (legal : legal_values cs vs ≡ true) (legal' : legal_values cs ws ≡ true) where
    abbrev move : List ℕ → List ℕ
    move = moved p (amounts σ facts c fits vs ws legal legal')

    -- a choice, and the one that it is moved to, have the same sight
    sight_stays : (zs : List ℕ) → length zs ≡ n → All (λ z. z < p) zs
        → sight σ c (made_share σ cs c.servers vs zs) ≡ sight σ c (made_share σ cs c.servers ws (move zs))
    sight_stays zs many random =
        let random' = moved_below σ facts c fits vs ws legal legal' zs in
        let one = both_zero_lem σ facts c fits vs zs legal random in
        let two = both_zero_lem σ facts c fits ws (move zs) legal' random' in
        same_sight_lem σ facts c fits (made_share σ cs c.servers vs zs) (made_share σ cs c.servers ws (move zs))
        (share_same σ facts c fits vs ws legal legal' zs many random)
        (d_same σ facts c fits vs ws legal legal' zs many random)
        (e_same σ facts c fits vs ws legal legal' zs many random)
        (one.sigma_none ∙ sym two.sigma_none) (one.tau_none ∙ sym two.tau_none)

    -- so as many choices pass a test of the sight
    values_alike : (t : List (List ℕ) → Bool)
        → choices_of σ c (made_share σ cs c.servers vs) t ≡ choices_of σ c (made_share σ cs c.servers ws) t
    values_alike t =
        count_same p n _ _ (λ zs many random. ap t (sight_stays zs many random))
        ∙ count_moved p n (amounts σ facts c fits vs ws legal legal') (λ zs. t (sight σ c (made_share σ cs c.servers ws zs)))

  -- ---- two valid lists of entries
  abbrev values_of : (xs : List ℕ) → IsValid σ c xs → List ℕ
  values_of xs good = (encodes σ facts c fits xs good).values

  as_values : (xs : List ℕ) (good : IsValid σ c xs) (t : List (List ℕ) → Bool)
      → choices_of σ c (share_from σ c xs) t ≡ choices_of σ c (made_share σ cs c.servers (values_of xs good)) t
  as_values xs good t = λ k. choices_of σ c (λ zs i. made_same σ facts c fits xs good zs i k) t

  alike : (xs ys : List ℕ) → IsValid σ c xs → IsValid σ c ys → (t : List (List ℕ) → Bool)
      → choices_of σ c (share_from σ c xs) t ≡ choices_of σ c (share_from σ c ys) t
  alike xs ys good good' t =
      as_values xs good t
      ∙ values_alike (values_of xs good) (values_of ys good') (encodes σ facts c fits xs good).legal
      (encodes σ facts c fits ys good').legal t
      ∙ sym (as_values ys good' t)

  pub hidden : Hidden σ c
  hidden = record {
    each_sight = λ xs ys good good' v. alike xs ys good good' (same_sight v);
    each_test = alike;
    possible = λ xs ys good good' zs many random. (
        let seen = sight σ c (share_from σ c xs zs) in
        subst (λ k. 0 < k) (alike xs ys good good' (same_sight seen)) (count_some p n _ zs many random (equal_sight seen seen refl)));
    each_value = λ vs ws legal legal'. alike (encoding cs vs) (encoding cs ws) (valid_of_values σ facts c fits vs legal)
        (valid_of_values σ facts c fits ws legal');
  }

-- at the setting of document 01
pub document01_hidden : (c : Case) → Fits document01 c → Hidden document01 c
document01_hidden = hidden document01 document01_facts
