-- Two returns whose shares are the same but at one server, and whose sums d, e, sigma and tau are the same, look the same to the other
-- servers: what the one server writes is each sum less what the others write. Assumes nothing.
use mathlib.Core.Path.{◌≡◌, sym, ◌∙◌, ap, ap₂}
use mathlib.Core.Logic.{◌≢◌}
use mathlib.Core.List.{List, [], ◌∷◌, ◌++◌, flatten}
use Prim.Native.Nat.{ℕ, ◌<◌}
use native.Mathlib.Omega.{arith}
use lib.ListN.{get_or}
use Rattle.algebra.specs.Lists.{count_from}
use Rattle.algebra.specs.Ops.{Ops}
use Rattle.algebra.specs.Modulo.{modulo}
use Rattle.algebra.specs.Sums.{sum}
use Rattle.algebra.proofs.Members.{map_same, in_count}
use Rattle.rules.specs.Settings.{Setting, Facts}
use Rattle.rules.specs.Columns.{Column}
use Rattle.rules.specs.Judging.{d_sum, e_sum, sigma_sum, tau_sum}
use Rattle.rules.specs.Making.{message, share_message}
use Rattle.rules.specs.Server.{waiting_of, sigma_in, message_one, message_two, summed}
use Rattle.privacy.specs.Sight.{Case, columns, others, opened_as, first_wait, second_wait}
use Rattle.privacy.specs.Sight.{share_messages, first_messages, second_messages, sight}
use Rattle.privacy.specs.Hidden.{Fits}
use Rattle.privacy.proofs.ButOne.{all_same}
use Rattle.privacy.proofs.Sights.{in_others}
use Rattle.privacy.proofs.Written.{worked_from, d_low, e_low, tau_low, sigma_low, sigma_total}

module _ (σ : Setting) (facts : Facts σ) (c : Case) (fits : Fits σ c) (shares shares' : ℕ → List ℕ)
    (same : (i : ℕ) → i < c.servers → i ≢ c.left_out → shares i ≡ shares' i) where
  abbrev cs : List Column
  cs = columns c

  abbrev O : Ops
  O = modulo σ.modulus

  abbrev x : ℕ → ℕ → ℕ
  x i e = get_or (shares i) e 0

  abbrev x' : ℕ → ℕ → ℕ
  x' i e = get_or (shares' i) e 0

  -- a number that server i works out from its share, and whose sum is the same
  each : (f : ℕ → List ℕ → ℕ) → ((i : ℕ) (xs : List ℕ) → f i xs < σ.modulus)
      → sum O c.servers (λ i. f i (shares i)) ≡ sum O c.servers (λ i. f i (shares' i))
      → (i : ℕ) → i < c.servers → f i (shares i) ≡ f i (shares' i)
  each f low sums =
      all_same σ facts c.servers c.left_out fits.is_server (λ i. f i (shares i)) (λ i. f i (shares' i)) (λ i. low i (shares i))
      (λ i. low i (shares' i)) (λ i l ne. ap (f i) (same i l ne)) sums

  module _ (d_same : d_sum O σ cs c.servers x c.r ≡ d_sum O σ cs c.servers x' c.r)
      (e_same : e_sum O σ cs c.servers x c.r ≡ e_sum O σ cs c.servers x' c.r)
      (sigma_same : sigma_sum O σ cs c.servers x c.r ≡ sigma_sum O σ cs c.servers x' c.r)
      (tau_same : tau_sum O σ cs c.servers x c.s ≡ tau_sum O σ cs c.servers x' c.s) where
    d_each : (i : ℕ) → i < c.servers → (first_wait σ c shares i).d ≡ (first_wait σ c shares' i).d
    unfolding d_sum waiting_of
    d_each = each (λ i xs. (worked_from σ facts c fits i xs).d) (d_low σ facts c fits) d_same

    e_each : (i : ℕ) → i < c.servers → (first_wait σ c shares i).e ≡ (first_wait σ c shares' i).e
    unfolding e_sum waiting_of
    e_each = each (λ i xs. (worked_from σ facts c fits i xs).e) (e_low σ facts c fits) e_same

    tau_each : (i : ℕ) → i < c.servers → (first_wait σ c shares i).tau ≡ (first_wait σ c shares' i).tau
    unfolding tau_sum waiting_of
    tau_each = each (λ i xs. (worked_from σ facts c fits i xs).tau) (tau_low σ facts c fits) tau_same

    firsts_same : first_messages σ c shares ≡ first_messages σ c shares'
    unfolding message_one waiting_of
    firsts_same =
        map_same _ _ (count_from 0 c.servers) (λ i k. (let q = in_count 0 c.servers i k in
        ap₂ (λ (d e : ℕ). message σ 34 c.id i (d ∷ e ∷ c.r ∷ c.s ∷ [])) (d_each i (omega arith)) (e_each i (omega arith))))

    -- sigma, with the sums of the first return's messages noted at both
    abbrev joined : List ℕ
    joined = flatten (first_messages σ c shares)

    abbrev sigma_from : ℕ → List ℕ → List ℕ → ℕ
    sigma_from i all xs = sigma_in σ (opened_as c i) (summed σ (opened_as c i) (worked_from σ facts c fits i xs) all)

    sigma_sums : sum O c.servers (λ i. sigma_from i joined (shares i)) ≡ sum O c.servers (λ i. sigma_from i joined (shares' i))
    sigma_sums =
        sigma_total σ facts c fits shares
        ∙ sigma_same
        ∙ sym (sigma_total σ facts c fits shares')
        ∙ ap (λ (ms : List (List ℕ)). sum O c.servers (λ i. sigma_from i (flatten ms) (shares' i))) (sym firsts_same)

    sigma_each : (i : ℕ) → i < c.servers
        → sigma_in σ (opened_as c i) (second_wait σ c shares i) ≡ sigma_in σ (opened_as c i) (second_wait σ c shares' i)
    sigma_each i l =
        each (λ i xs. sigma_from i joined xs) (λ i xs. sigma_low σ facts c fits i _) sigma_sums i l
        ∙ ap (λ (ms : List (List ℕ)). sigma_from i (flatten ms) (shares' i)) firsts_same

    seconds_same : second_messages σ c shares ≡ second_messages σ c shares'
    unfolding message_two summed waiting_of
    seconds_same =
        map_same _ _ (count_from 0 c.servers) (λ i k. (let q = in_count 0 c.servers i k in
        ap₂ (λ (s t : ℕ). message σ 35 c.id i (s ∷ t ∷ [])) (sigma_each i (omega arith)) (tau_each i (omega arith))))

    others_same : share_messages σ c shares ≡ share_messages σ c shares'
    others_same =
        map_same _ _ (others c) (λ i k. (let q = in_others c i k in
        ap (share_message σ c.id i) (same i q.0 q.1)))

    pub same_sight_lem : sight σ c shares ≡ sight σ c shares'
    unfolding sight
    same_sight_lem = ap₂ ◌++◌ others_same (ap₂ ◌++◌ firsts_same seconds_same)
