-- The messages of a sight as servers write them. What they hold is below p, so that the sums which the servers note are those of
-- Judging; and what is seen of a return that making wrote, at servers of a pool that can take it, is a sight. Assumes nothing.
use mathlib.Core.Path.{◌≡◌, refl, sym, ap}
use mathlib.Core.List.{List, [], ◌∷◌, ◌++◌, flatten}
use Prim.Native.Nat.{ℕ, ◌<◌}
use lib.ListN.{get_or}
use Rattle.algebra.specs.Lists.{all[], all∷}
use Rattle.algebra.specs.Ops.{Ops}
use Rattle.algebra.specs.Modulo.{modulo}
use Rattle.algebra.specs.Sums.{sum}
use Rattle.algebra.proofs.Members.{map_same}
use Rattle.algebra.proofs.Rearrangement.{rearranged_refl}
use Rattle.words.specs.Bytes.{elements_of}
use Rattle.rules.specs.Settings.{Setting, Facts}
use Rattle.rules.specs.Columns.{Column}
use Rattle.rules.specs.Judging.{first_only, sigma_of, d_sum, e_sum, sigma_sum}
use Rattle.rules.specs.Making.{make_refusal}
use Rattle.rules.specs.Messages.{first_sum, second_sum}
use Rattle.rules.specs.Server.{Waiting, waiting_of, sigma_in, message_one, summed}
use Rattle.rules.specs.Ledger.{Note}
use Rattle.rules.specs.Pools.{Pool}
use Rattle.rules.specs.WholeRun.{firsts, seconds}
use Rattle.rules.specs.Made.{made_part, share_made, CanTake}
use Rattle.rules.proofs.Histories.WrittenRuns.{Written, written}
use Rattle.rules.proofs.Histories.OwnMessages.{pair_below, sigma_below, d_below, e_below, tau_below}
use Rattle.rules.proofs.Histories.PoolOpened.{opened}
use Rattle.rules.proofs.Runs.MadeRuns.{made_run}
use Rattle.privacy.specs.Sight.{Case, columns, others, opened_as, first_wait, first_messages, second_wait, sight}
use Rattle.privacy.specs.Hidden.{Fits}
use Rattle.privacy.specs.InPool.{case_in, SeenInPool}
use Rattle.privacy.proofs.Sights.{in_others}

module _ (σ : Setting) (facts : Facts σ) (c : Case) (fits : Fits σ c) where
  abbrev cs : List Column
  cs = columns c

  abbrev O : Ops
  O = modulo σ.modulus

  -- ---- what server i works out from the share xs
  abbrev pub worked_from : ℕ → List ℕ → Waiting
  worked_from i xs = waiting_of σ (opened_as c i) c.id xs c.r c.s

  abbrev note : List ℕ → Note
  note xs = record { id = c.id; elements = xs; r = c.r; s = c.s }

  pub d_low : (i : ℕ) (xs : List ℕ) → (worked_from i xs).d < σ.modulus
  d_low i xs = d_below σ facts (opened_as c i) (note xs)

  pub e_low : (i : ℕ) (xs : List ℕ) → (worked_from i xs).e < σ.modulus
  e_low i xs = e_below σ facts (opened_as c i) (note xs)

  pub tau_low : (i : ℕ) (xs : List ℕ) → (worked_from i xs).tau < σ.modulus
  tau_low i xs = tau_below σ facts (opened_as c i) (note xs)

  pub sigma_low : (i : ℕ) (w : Waiting) → sigma_in σ (opened_as c i) w < σ.modulus
  sigma_low i w = sigma_below σ facts (opened_as c i) w

  -- ---- the sums over the servers
  module _ (shares : ℕ → List ℕ) where
    abbrev x : ℕ → ℕ → ℕ
    x i e = get_or (shares i) e 0

    abbrev elements : ℕ → List ℕ
    elements i = (first_wait σ c shares i).d ∷ (first_wait σ c shares i).e ∷ c.r ∷ c.s ∷ []

    round_one_lem : Written σ c.servers 34 c.id elements (flatten (first_messages σ c shares))
    unfolding message_one waiting_of
    round_one_lem =
        let pair = pair_below σ cs c.r c.s fits.allowed in
        written σ facts c.servers 34 c.id elements fits.id_fits (λ i l. refl)
        (λ i l. all∷ (d_low i (shares i)) (all∷ (e_low i (shares i)) (all∷ pair.0 (all∷ pair.1 all[]))))
        (first_messages σ c shares) (rearranged_refl (first_messages σ c shares))

    d_noted : first_sum σ 34 c.servers (flatten (first_messages σ c shares)) ≡ d_sum O σ cs c.servers x c.r
    unfolding d_sum waiting_of
    d_noted = round_one_lem.sums 0

    e_noted : second_sum σ 34 c.servers (flatten (first_messages σ c shares)) ≡ e_sum O σ cs c.servers x c.r
    unfolding e_sum waiting_of
    e_noted = round_one_lem.sums 1

    pub sigma_total : sum O c.servers (λ i. sigma_in σ (opened_as c i) (second_wait σ c shares i))
        ≡ sigma_sum O σ cs c.servers x c.r
    unfolding sigma_sum waiting_of summed sigma_in sigma_of
    sigma_total = λ t. sum O c.servers (λ i. sigma_of O σ cs (first_only O i) (x i) c.r (d_noted t) (e_noted t))

-- ---- in a pool: so it is wherever making is not refused and the servers can take a return under the id with the pair
module _ (σ : Setting) (𝓟 : Pool σ) (id r s left_out : ℕ) (values random : List ℕ) where
  abbrev c : Case
  c = case_in σ 𝓟 id r s left_out

  abbrev shares : ℕ → List ℕ
  shares = share_made σ 𝓟.sheet 𝓟.servers id (elements_of 4 values) (elements_of σ.width random)

  pub seen_in_pool : Facts σ → left_out < 𝓟.servers → (lent room roundRoom : ℕ)
      → make_refusal σ 𝓟.sheet 𝓟.servers values random lent ≡ 0 → CanTake σ 𝓟 id r s room roundRoom
      → SeenInPool σ 𝓟 id r s left_out values random room roundRoom
  unfolding sight
  seen_in_pool facts is_server lent room roundRoom done free =
      let written-bytes = (made_run σ facts 𝓟).made 𝓟.sheet 𝓟.servers id values random lent done in
      record {
        fits = record {
          is_read = (opened σ 𝓟).no_fault_lem;
          id_fits = free.id_fits;
          allowed = free.pair;
          is_server = is_server;
        };
        sight_is = ap (λ (l : List (List ℕ)). l ++ (firsts σ 𝓟 id shares r s ++ seconds σ 𝓟 id shares r s))
            (map_same _ _ (others c) (λ i k. sym (written-bytes.message_is i (in_others c i k).0)));
        accepted = (made_run σ facts 𝓟).accepted id (elements_of 4 values) (elements_of σ.width random)
            (made_part σ 𝓟.sheet 𝓟.servers id values random) written-bytes.return r s room roundRoom free;
      }
