-- What is said of the messages that the servers but one see is met in the run of two servers: once its first return is entered, a return
-- that making wrote under another id is seen as a sight, whichever server is left out, and each sight of yes is one of no by as many
-- choices. The premises are those of a return that is accepted (Premises). Assumes nothing.
use mathlib.Core.Path.{◌≡◌, refl}
use mathlib.Core.Bool.{Bool, true}
use mathlib.Core.List.{List, [], ◌∷◌}
use Prim.Native.Nat.{ℕ, ◌<◌}
use Rattle.rules.specs.Settings.{document01}
use Rattle.rules.specs.Columns.{columns_of}
use Rattle.rules.specs.Values.{legal_values}
use Rattle.rules.specs.Making.{made_share}
use Rattle.rules.proofs.Computed.Computing.{everything}
use Rattle.rules.proofs.Computed.Facts.{document01_facts}
use Rattle.privacy.specs.Hidden.{choices_of}
use Rattle.privacy.specs.InPool.{case_in, SeenInPool}
use Rattle.privacy.proofs.Written.{seen_in_pool}
use Rattle.privacy.proofs.Hiding.{document01_hidden}
use Rattle.runs.proofs.TwoServers.{sheet}
use Rattle.runs.proofs.Premises.{early_pool, value_bytes, random_bytes, not_refused, can_take}

module _ (left_out : ℕ) (is_server : left_out < 2) where
  seen : SeenInPool document01 early_pool 78 4 9 left_out value_bytes random_bytes 22 14
  seen = seen_in_pool document01 early_pool 78 4 9 left_out value_bytes random_bytes document01_facts is_server 84 22 14 not_refused can_take

  -- yes and no are legal on the sheet
  yes_legal : legal_values (columns_of sheet) (1 ∷ []) ≡ true
  unfolding everything
  yes_legal = refl

  no_legal : legal_values (columns_of sheet) (0 ∷ []) ≡ true
  unfolding everything
  no_legal = refl

  -- so whatever test the other server puts to what it sees, it passes for as many choices with yes as with no
  as_many : (t : List (List ℕ) → Bool)
      → choices_of document01 (case_in document01 early_pool 78 4 9 left_out) (made_share document01 (columns_of sheet) 2 (1 ∷ [])) t
      ≡ choices_of document01 (case_in document01 early_pool 78 4 9 left_out) (made_share document01 (columns_of sheet) 2 (0 ∷ [])) t
  as_many =
      (document01_hidden (case_in document01 early_pool 78 4 9 left_out) seen.fits).each_value (1 ∷ []) (0 ∷ []) yes_legal no_legal
