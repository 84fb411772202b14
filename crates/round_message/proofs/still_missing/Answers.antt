-- `round_message::still_missing` meets its contract: the byte that is compared is the one that names a place's server
-- (`server_byte`), and the test of each place is the definition's (`every_of_range`). Assumes nothing.
use mathlib.Core.Path.{◌≡◌, refl, sym, ap, ◌∙◌}
use mathlib.Core.Bool.{Bool, not}
use mathlib.Core.List.{List}
use Prim.Native.Nat.{ℕ, ◌+◌, ◌*◌}
use native.Mathlib.Omega.{arith}
use lib.Dec.{eqb}
use lib.ListN.{get_or}
use Rattle.std.proofs.Common.{rules}
use Rattle.std.proofs.lemmas.Iterator.{YieldsList-from_range}
use Rattle.std.proofs.lemmas.Iterator.Search.{all_from_yields_List}
use Rattle.rules.specs.Settings.{document01}
use Rattle.rules.specs.Messages.{round_length, server_at, still_missing}
use Rattle.round_message.specs.Rounds.{code_of}
use Rattle.round_message.proofs.Rounds.{server_byte}
use Rattle.round_message.proofs.Every.{every_of_range}
use Rattle.round_message.proofs.still_missing.Goals as goal

-- place j names another server
module _ (kind : ℕ) (joined : List ℕ) (server : ℕ) where
  abbrev other : ℕ → Bool
  other j = not (eqb (server_at document01 kind joined j) server)

  other_is : (size j : ℕ) → size ≡ round_length document01 kind → not (eqb (get_or joined (size * j + 5) 0) server) ≡ other j
  other_is size j e = ap (λ (b : ℕ). not (eqb b server)) (rw e (sym (server_byte kind joined j)))

pub returns : goal.returns
unfolding still_missing
returns c =
    let a = c.args in
    let test = other (code_of a.round) a.joined.now a.server in
    all_from_yields_List test _ _ c.all.result c.all.ensures.ran (YieldsList-from_range 0 a.i a.i refl (omega arith))
    (λ j b q k.
    let h : (q ≡ _) × (b ≡ not (eqb (get_or a.joined.now (c.length-size.result * j + 5) 0) a.server)) = search rules in
    (h.0, h.1 ∙ other_is (code_of a.round) a.joined.now a.server _ j c.length-size.ensures))
    ∙ every_of_range test 0 a.i
