-- A return that is made of legal values: its shares are below p and add up to the whole; the sums d and e are f(r) - a and r g(r) - b,
-- with f and g of making, and sigma and tau are 0. What servers work out adds up to what is worked out on the whole. Assumes nothing.
use mathlib.Core.Path.{◌≡◌, sym, ◌∙◌, ap, ap₂}
use mathlib.Core.Bool.{true}
use mathlib.Core.List.{List}
use Prim.Native.Nat.{ℕ, ◌≤◌, ◌<◌}
use native.Mathlib.Omega.{arith}
use lib.ListN.{get_or}
use Rattle.algebra.specs.Lists.{All}
use Rattle.algebra.specs.Ops.{Ops, minus}
use Rattle.algebra.specs.Modulo.{modulo}
use Rattle.rules.specs.Settings.{Setting, Facts}
use Rattle.rules.specs.Columns.{Column}
use Rattle.rules.specs.Circuit.{gates_in}
use Rattle.rules.specs.Values.{legal_values, encoding}
use Rattle.rules.specs.Judging.{d_of, e_of, added_up, d_sum, e_sum}
use Rattle.rules.specs.Making.{f_of, g_of, made_share}
use Rattle.rules.proofs.Circuits.Limits.{InLimits}
use Rattle.rules.proofs.Circuits.Refusals.{sheet_read, sheet_limits_lem}
use Rattle.rules.proofs.Returns.Adding.{d_sum_lem, e_sum_lem}
use Rattle.rules.proofs.Returns.Elements.{field, R, value, d_value, e_value}
use Rattle.rules.proofs.Returns.Honest.{f_is, g_is}
use Rattle.rules.proofs.Returns.HonestReturns.{shares_below, apart, adds}
use Rattle.rules.proofs.Returns.LetsIn.{allowed_says, BothZero, let_in_zero}
use Rattle.rules.proofs.Returns.OnSheets.{gates, sheet_honest_let_in}
use Rattle.rules.proofs.Returns.Whole.{whole_at, whole_parts}
use Rattle.privacy.specs.Sight.{Case, columns}
use Rattle.privacy.specs.Hidden.{Fits}

module _ (σ : Setting) (facts : Facts σ) (c : Case) (fits : Fits σ c) (vs zs : List ℕ) (legal : legal_values (columns c) vs ≡ true)
    (random : All (λ z. z < σ.modulus) zs) where
  abbrev cs : List Column
  cs = columns c

  abbrev O : Ops
  O = R σ facts

  abbrev ι : ℕ → O.F
  ι = O.ι

  in_limits : All InLimits cs
  in_limits = (sheet_limits_lem c.sheet fits.is_read).in_limits

  few : gates_in cs ≤ 256
  few = gates σ facts c.sheet cs (sheet_read c.sheet fits.is_read)

  some : 0 < c.servers
  some = omega (arith, fits.is_server)

  -- the shares, the entries and the whole
  abbrev pub made_shares : ℕ → ℕ → ℕ
  made_shares i e = get_or (made_share σ cs c.servers vs zs i) e 0

  abbrev entries : ℕ → O.F
  entries e = ι (get_or (encoding cs vs) e 0)

  abbrev made_up : ℕ → O.F
  made_up = whole_at O σ cs entries (ι (get_or zs 0 0)) (ι (get_or zs 1 0)) (ι (get_or zs 2 0)) (ι (get_or zs 3 0))

  pub made_below : (i e : ℕ) → made_shares i e < σ.modulus
  made_below = shares_below σ facts cs in_limits few c.servers some vs zs legal random

  pub made_add_up : added_up O σ cs c.servers (λ i e. ι (made_shares i e)) ≡ made_up
  made_add_up = adds σ facts cs in_limits few c.servers some vs zs legal random

  -- on the whole
  d_of_whole : (r : O.F) → d_of O σ cs O.𝟙 made_up r ≡ minus O (f_of O σ cs entries (ι (get_or zs 0 0)) r) (ι (get_or zs 2 0))
  unfolding d_of
  d_of_whole r =
      ap₂ (minus O) (f_is (field σ facts) σ cs (apart σ facts cs in_limits few c.servers some vs zs legal random) entries _ _ _ _ r)
      (whole_parts O σ cs entries _ _ _ _).a_is

  e_of_whole : (r : O.F)
      → e_of O σ cs O.𝟙 made_up r ≡ minus O (O.◌⊗◌ r (g_of O σ cs entries (ι (get_or zs 1 0)) r)) (ι (get_or zs 3 0))
  unfolding e_of
  e_of_whole r =
      ap₂ (λ g b. minus O (O.◌⊗◌ r g) b)
      (g_is (field σ facts) σ cs (apart σ facts cs in_limits few c.servers some vs zs legal random) entries _ _ _ _ r)
      (whole_parts O σ cs entries _ _ _ _).b_is

  pub d_total : d_sum (modulo σ.modulus) σ cs c.servers made_shares c.r
      ≡ value σ facts (minus O (f_of O σ cs entries (ι (get_or zs 0 0)) (ι c.r)) (ι (get_or zs 2 0)))
  d_total =
      sym (d_value σ facts cs c.servers made_shares made_below c.r (allowed_says σ cs c.r c.s fits.allowed).r_below)
      ∙ ap (value σ facts)
      (d_sum_lem (field σ facts) σ cs c.servers some _ (ι c.r)
      ∙ ap (λ (y : ℕ → O.F). d_of O σ cs O.𝟙 y (ι c.r)) made_add_up
      ∙ d_of_whole (ι c.r))

  pub e_total : e_sum (modulo σ.modulus) σ cs c.servers made_shares c.r
      ≡ value σ facts (minus O (O.◌⊗◌ (ι c.r) (g_of O σ cs entries (ι (get_or zs 1 0)) (ι c.r))) (ι (get_or zs 3 0)))
  e_total =
      sym (e_value σ facts cs c.servers made_shares made_below c.r (allowed_says σ cs c.r c.s fits.allowed).r_below)
      ∙ ap (value σ facts)
      (e_sum_lem (field σ facts) σ cs c.servers some _ (ι c.r)
      ∙ ap (λ (y : ℕ → O.F). e_of O σ cs O.𝟙 y (ι c.r)) made_add_up
      ∙ e_of_whole (ι c.r))

  pub both_zero_lem : BothZero σ cs c.servers made_shares c.r c.s
  both_zero_lem =
      let_in_zero σ cs c.servers made_shares c.r c.s
      (sheet_honest_let_in σ facts c.sheet cs (sheet_read c.sheet fits.is_read) c.servers some vs zs legal random
      c.r c.s fits.allowed)
