-- The claim applied at document 01's prime, with two servers and a yes/no column: whichever server is left out, a sight of "no" comes
-- from some choice with "yes" as well. antt computes what the claim asks for. Assumes nothing.
use mathlib.Core.Path.{◌≡◌, refl}
use mathlib.Core.Bool.{true}
use mathlib.Core.List.{List, [], ◌∷◌}
use Prim.Native.Nat.{ℕ, ◌<◌}
use lib.Dec.{lit<}
use lib.ListN.{length}
use Rattle.words.specs.Bytes.{all_below}
use Rattle.words.proofs.Below.{all_of_below}
use Rattle.rules.specs.Settings.{document01}
use Rattle.rules.specs.Columns.{sheet_fault}
use Rattle.rules.specs.Judging.{allowed_pair}
use Rattle.rules.specs.Making.{random_count}
use Rattle.rules.specs.Examples.{random}
use Rattle.rules.proofs.Computed.Computing.{everything}
use Rattle.rules.proofs.Computed.Facts.{document01_facts}
use Rattle.privacy.specs.Sight.{Case, columns, share_from, sight, same_sight}
use Rattle.privacy.specs.Hidden.{Fits, choices_of, IsValid}
use Rattle.privacy.specs.Examples.{yes_no_case}
use Rattle.privacy.proofs.Entries.{valid_of_values}
use Rattle.privacy.proofs.Hiding.{document01_hidden}

module _ (left_out : ℕ) (is_server : left_out < 2) where
  abbrev c : Case
  c = yes_no_case 2 4 9 left_out

  is_read : sheet_fault c.sheet ≡ 0
  unfolding everything
  is_read = refl

  is_allowed : allowed_pair document01 (columns c) 4 9 ≡ true
  unfolding everything
  is_allowed = refl

  fits : Fits document01 c
  fits = record { is_read = is_read; id_fits = lit< tt; allowed = is_allowed; is_server = is_server }

  -- the entries of "no" and "yes"
  no_valid : IsValid document01 c (0 ∷ [])
  unfolding everything
  no_valid = valid_of_values document01 document01_facts c fits (0 ∷ []) refl

  yes_valid : IsValid document01 c (1 ∷ [])
  unfolding everything
  yes_valid = valid_of_values document01 document01_facts c fits (1 ∷ []) refl

  enough : length random ≡ random_count 2 (columns c)
  unfolding everything
  enough = refl

  random_below : all_below document01.modulus random ≡ true
  unfolding everything
  random_below = refl

  -- what is seen of "no" with these random elements
  abbrev seen : List (List ℕ)
  seen = sight document01 c (share_from document01 c (0 ∷ []) random)

  pub no_looks_like_yes : 0 < choices_of document01 c (share_from document01 c (1 ∷ [])) (same_sight seen)
  no_looks_like_yes =
      (document01_hidden c fits).possible (0 ∷ []) (1 ∷ []) no_valid yes_valid random enough
      (all_of_below document01.modulus random random_below)
