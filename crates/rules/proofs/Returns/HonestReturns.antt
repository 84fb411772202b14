-- A return that is made of legal values is let in by every allowed pair, for numbers modulo p. The encoding of legal
-- values is a valid list, its elements make a valid list of the field, and both sums come down as 0. Assumes nothing.
use mathlib.Core.Path.{◌≡◌, sym, ◌∙◌, ap}
use mathlib.Core.Bool.{true}
use mathlib.Core.List.{List}
use Prim.Native.Nat.{ℕ, suc, ◌+◌, ◌≤◌, ◌<◌}
use native.Mathlib.Nat.{mod-eq_of_lt}
use native.Mathlib.Omega.{arith}
use lib.ListN.{get_or}
use Rattle.algebra.specs.Lists.{All}
use Rattle.algebra.specs.Modulo.{modulo}
use Rattle.algebra.specs.Claims.{Apart}
use Rattle.algebra.proofs.Residues.{of_value, positive}
use Rattle.rules.specs.Settings.{Setting, Facts}
use Rattle.rules.specs.Columns.{Column}
use Rattle.rules.specs.Circuit.{gates_in}
use Rattle.rules.specs.Run.{Valid}
use Rattle.rules.specs.Values.{legal_values, encoding}
use Rattle.rules.specs.Judging.{added_up, sigma_sum, tau_sum, allowed_pair, lets_in}
use Rattle.rules.specs.Making.{made_share}
use Rattle.rules.proofs.Circuits.Limits.{InLimits}
use Rattle.rules.proofs.Circuits.Encoding.{entry_below_modulus}
use Rattle.rules.proofs.Circuits.Legal.{valid_lifts, tests_say_legal}
use Rattle.rules.proofs.Returns.LetsIn.{allowed_says, zero_lets_in}
use Rattle.rules.proofs.Returns.Elements.{field, R, elements_apart, value, zero_value, added_lifts, sigma_value, tau_value}
use Rattle.rules.proofs.Returns.Whole.{whole_at}
use Rattle.rules.proofs.Returns.Shares.{get_d_below, made, whole_value, added_is_whole}
use Rattle.rules.proofs.Returns.Honest.{honest_sigma, honest_tau}

-- the theorem, for the values vs and the random elements zs
abbrev pub HonestLetIn : Setting → List Column → Type 0
HonestLetIn σ cs = (servers : ℕ) → 0 < servers → (vs zs : List ℕ) → legal_values cs vs ≡ true → All (λ z. z < σ.modulus) zs
    → (r s : ℕ) → allowed_pair σ cs r s ≡ true
    → lets_in σ cs servers (λ i e. get_or (made_share σ cs servers vs zs i) e 0) r s ≡ true

-- the encoding of legal values is a valid list
pub encoding_valid : (σ : Setting) → Facts σ → (cs : List Column) → All InLimits cs → (vs : List ℕ) → legal_values cs vs ≡ true
    → Valid (modulo σ.modulus) σ cs (λ e. get_or (encoding cs vs) e 0)
encoding_valid σ facts cs limits vs legal =
    let below = entry_below_modulus σ facts cs vs limits legal in
    (tests_say_legal σ facts cs (λ e. get_or (encoding cs vs) e 0) below limits).1
    (record { values = vs; legal = legal; entries_are = λ i l. sym (mod-eq_of_lt (below i)) })

module _ (σ : Setting) (facts : Facts σ) (cs : List Column) (limits : All InLimits cs) (gates : gates_in cs ≤ 256)
    (servers : ℕ) (some : 0 < servers) (vs zs : List ℕ) (legal : legal_values cs vs ≡ true)
    (random : All (λ z. z < σ.modulus) zs) where
  abbrev p : ℕ
  p = σ.modulus

  -- the entries, and the elements of the shares
  abbrev entries : ℕ → ℕ
  entries e = get_or (encoding cs vs) e 0

  abbrev shares : ℕ → ℕ → ℕ
  shares i e = get_or (made_share σ cs servers vs zs i) e 0

  entries_below : (e : ℕ) → entries e < p
  entries_below = entry_below_modulus σ facts cs vs limits legal

  pub shares_below : (i e : ℕ) → shares i e < p
  shares_below i e = get_d_below p (positive p facts.prime) ((made σ facts cs servers vs zs some random).share_below i) e

  pub apart : Apart (field σ facts) (suc (gates_in cs + gates_in cs)) (R σ facts).ι
  apart = elements_apart σ facts _ (omega (arith, facts.large))

  abbrev ι : ℕ → (R σ facts).F
  ι = (R σ facts).ι

  -- the whole in the field, to which the elements of the shares add up
  abbrev whole_up : ℕ → (R σ facts).F
  whole_up =
      whole_at (R σ facts) σ cs (λ e. ι (entries e)) (ι (get_or zs 0 0)) (ι (get_or zs 1 0)) (ι (get_or zs 2 0)) (ι (get_or zs 3 0))

  pub adds : added_up (R σ facts) σ cs servers (λ i e. ι (shares i e)) ≡ whole_up
  adds = sym (added_lifts σ facts cs servers shares shares_below) ∙ λ t e. element e t
    where
      element : (e : ℕ) → ι (added_up (modulo p) σ cs servers shares e) ≡ whole_up e
      element e =
          ap ι (added_is_whole σ facts cs servers vs zs some random entries_below e
          ∙ sym (whole_value σ facts cs servers vs zs some random entries_below e))
          ∙ of_value p facts.prime _

  valid_up : Valid (R σ facts) σ cs (λ e. ι (entries e))
  valid_up = (valid_lifts σ facts cs entries entries_below).0 (encoding_valid σ facts cs limits vs legal)

  sigma_zero : (r : ℕ) → r < p → sigma_sum (modulo p) σ cs servers shares r ≡ 0
  sigma_zero r l =
      sym (sigma_value σ facts cs servers shares shares_below r l)
      ∙ ap (value σ facts)
      (honest_sigma (field σ facts) σ cs apart (λ e. ι (entries e)) (ι (get_or zs 0 0)) (ι (get_or zs 1 0)) (ι (get_or zs 2 0))
      (ι (get_or zs 3 0)) valid_up servers some _ adds (ι r))
      ∙ zero_value σ facts

  tau_zero : (s : ℕ) → s < p → tau_sum (modulo p) σ cs servers shares s ≡ 0
  tau_zero s l =
      sym (tau_value σ facts cs servers shares shares_below s l)
      ∙ ap (value σ facts)
      (honest_tau (field σ facts) σ cs apart (λ e. ι (entries e)) (ι (get_or zs 0 0)) (ι (get_or zs 1 0)) (ι (get_or zs 2 0))
      (ι (get_or zs 3 0)) valid_up servers some _ adds (ι s))
      ∙ zero_value σ facts

  both_zero_lem : (r s : ℕ) → allowed_pair σ cs r s ≡ true → lets_in σ cs servers shares r s ≡ true
  both_zero_lem r s h =
      let a = allowed_says σ cs r s h in
      zero_lets_in σ cs servers shares r s h
      (record { sigma_none = sigma_zero r a.r_below; tau_none = tau_zero s a.s_below })

pub honest_let_in : (σ : Setting) → Facts σ → (cs : List Column) → All InLimits cs → gates_in cs ≤ 256 → HonestLetIn σ cs
honest_let_in = both_zero_lem
