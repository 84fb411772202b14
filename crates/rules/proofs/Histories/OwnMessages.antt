-- What is read in the messages that a server writes: round, id, the pair, and the elements that Judging works out, which are below p
-- since each is a remainder. Assumes that the pair is of elements.
use mathlib.Core.Path.{◌≡◌, refl}
use mathlib.Core.Bool.{true, ◌&&◌}
use mathlib.Core.List.{List, [], ◌∷◌}
use Prim.Native.Nat.{ℕ, zero, suc, ◌<◌}
use native.Mathlib.Nat.{mod-lt}
use borrow.Author.Tests.{ltb-true}
use lib.Dec.{ltb}
use Rattle.algebra.specs.Lists.{all[], all∷}
use Rattle.algebra.specs.Modulo.{modulo}
use Rattle.algebra.specs.Sums.{sum}
use Rattle.algebra.proofs.Members.{and_left, and_right}
use Rattle.rules.specs.Settings.{Setting, Facts}
use Rattle.rules.specs.Columns.{Column}
use Rattle.rules.specs.Circuit.{gates_in}
use Rattle.rules.specs.Judging.{d_of, e_of, sigma_from, tau_of, folded, allowed_pair}
use Rattle.rules.specs.Messages.{kind_in, id_in, elements_in}
use Rattle.rules.specs.Server.{Opened, Waiting, waiting_of, sigma_in, message_one, message_two, totals_message}
use Rattle.rules.specs.Ledger.{Note, Ledger, noted, closing_message}
use Rattle.rules.proofs.Histories.Opening.{positive}
use Rattle.rules.proofs.Histories.MessageBytes.{kind_read, id_read, elements_read}

-- ---- rounds and ids
module _ (σ : Setting) (o : Opened) where
  pub kind_one : (w : Waiting) → kind_in (message_one σ o w) ≡ 34
  unfolding message_one
  kind_one w = kind_read σ 34 _ _ _

  pub kind_two : (w : Waiting) → kind_in (message_two σ o w) ≡ 35
  unfolding message_two
  kind_two w = kind_read σ 35 _ _ _

  pub kind_closing : (l : Ledger) → kind_in (closing_message σ o l) ≡ σ.totals_byte
  unfolding closing_message totals_message
  kind_closing l = refl

  pub id_one : (w : Waiting) → w.id < 4294967296 → id_in (message_one σ o w) ≡ w.id
  unfolding message_one
  id_one w h = id_read σ 34 _ _ _ h

  pub id_two : (w : Waiting) → w.id < 4294967296 → id_in (message_two σ o w) ≡ w.id
  unfolding message_two
  id_two w h = id_read σ 35 _ _ _ h

  -- the id that is noted
  pub id_noted : (n : Note) → (noted σ o n).id ≡ n.id
  unfolding waiting_of
  id_noted n = refl

-- an allowed pair is of elements: by the tests, for so many multiplications
pub pair_tests : (gates p r s : ℕ) → (ltb gates r && (ltb r p && ltb s p)) ≡ true → (r < p) × (s < p)
pair_tests gates p r s e =
    let both : (ltb r p && ltb s p) ≡ true = and_right (ltb gates r) (ltb r p && ltb s p) e in
    (ltb-true r p (and_left (ltb r p) (ltb s p) both), ltb-true s p (and_right (ltb r p) (ltb s p) both))

pub pair_below : (σ : Setting) (cs : List Column) (r s : ℕ) → allowed_pair σ cs r s ≡ true → (r < σ.modulus) × (s < σ.modulus)
unfolding allowed_pair
pair_below σ cs r s = pair_tests (gates_in cs) σ.modulus r s

-- ---- elements: numbers that Judging works out are below p
module _ (σ : Setting) (facts : Facts σ) where
  pub sum_below : (m : ℕ) (g : ℕ → ℕ) → sum (modulo σ.modulus) m g < σ.modulus
  unfolding sum
  sum_below zero g = positive σ facts
  sum_below (suc m) g = mod-lt _ (positive σ facts)

  module _ (o : Opened) (n : Note) where
    pub d_below : (noted σ o n).d < σ.modulus
    unfolding waiting_of d_of
    d_below = mod-lt _ (positive σ facts)

    pub e_below : (noted σ o n).e < σ.modulus
    unfolding waiting_of e_of
    e_below = mod-lt _ (positive σ facts)

    pub rh_below : (noted σ o n).rh < σ.modulus
    unfolding waiting_of
    rh_below = mod-lt _ (positive σ facts)

    pub tau_below : (noted σ o n).tau < σ.modulus
    unfolding waiting_of tau_of folded
    tau_below = sum_below _ _

module _ (σ : Setting) (facts : Facts σ) (o : Opened) where
  abbrev Below : ℕ → Type 0
  Below x = x < σ.modulus

  pub sigma_below : (w : Waiting) → Below (sigma_in σ o w)
  unfolding sigma_in sigma_from
  sigma_below w = mod-lt _ (positive σ facts)

  pub elements_one : (w : Waiting) → Below w.d → Below w.e → Below w.r → Below w.s
      → elements_in σ (message_one σ o w) ≡ w.d ∷ w.e ∷ w.r ∷ w.s ∷ []
  unfolding message_one
  elements_one w d e r s = elements_read σ 34 _ _ _ facts (all∷ d (all∷ e (all∷ r (all∷ s all[]))))

  pub elements_two : (w : Waiting) → Below w.tau → elements_in σ (message_two σ o w) ≡ sigma_in σ o w ∷ w.tau ∷ []
  unfolding message_two
  elements_two w h = elements_read σ 35 _ _ _ facts (all∷ (sigma_below w) (all∷ h all[]))
