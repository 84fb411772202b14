-- Fields 5 and 6 of demand 3: a return judged to the end has one pair and is accepted exactly when that pair lets it in, since with
-- one pair the sums of the rounds are those that Judging works out from the shares; so one that is delivered whole is accepted.
-- Assumes that messages are unaltered.
use mathlib.Core.Path.{◌≡◌, sym, ap, ap₂, ◌∙◌, subst}
use mathlib.Core.Bool.{Bool, true, ◌&&◌}
use mathlib.Core.List.{List}
use Prim.Native.Nat.{ℕ, ◌<◌}
use lib.Dec.{eqb}
use lib.ListN.{get_or}
use Rattle.algebra.specs.Lists.{In}
use Rattle.algebra.specs.Modulo.{modulo}
use Rattle.algebra.proofs.Members.{in_map}
use Rattle.algebra.proofs.Sums.{sum_ext}
use Rattle.rules.specs.Settings.{Setting, Facts}
use Rattle.rules.specs.Columns.{Column}
use Rattle.rules.specs.Judging.{first_only, d_of, e_of, sigma_of, tau_of, d_sum, e_sum, sigma_sum, tau_sum, allowed_pair, lets_in}
use Rattle.rules.specs.Making.{made_share}
use Rattle.rules.specs.Server.{waiting_of, sigma_in}
use Rattle.rules.specs.Ledger.{Note, ids_of}
use Rattle.rules.specs.Pools.{Pool, columns, notes_at, return_of, Unaltered, DeliveredWhole, JudgedToEnd, JudgedByPair}
use Rattle.words.proofs.Below.{all_of_below}
use Rattle.rules.proofs.Histories.PoolOpened.{is_read}
use Rattle.rules.proofs.Returns.OnSheets.{sheet_honest_let_in}
use Rattle.rules.proofs.Runs.Agreement.{sound_at_lem, found, share_at, d_all, e_all, sigma_all, tau_all, verdict_all, Noted, Summed}
use Rattle.rules.proofs.Runs.Agreement.{agreed, judged_everywhere}
use Rattle.rules.proofs.Runs.OneChallenge.{one_pair}

-- equal shares are let in by the same pairs
module _ (σ : Setting) (cs : List Column) (servers : ℕ) (x y : ℕ → ℕ → ℕ) (same : (i : ℕ) → i < servers → x i ≡ y i)
    (r s : ℕ) where
  d_same : d_sum (modulo σ.modulus) σ cs servers x r ≡ d_sum (modulo σ.modulus) σ cs servers y r
  unfolding d_sum
  d_same = sum_ext (modulo σ.modulus) servers _ _ (λ i b.
      ap (λ (z : ℕ → ℕ). d_of (modulo σ.modulus) σ cs (first_only (modulo σ.modulus) i) z r) (same i b))

  e_same : e_sum (modulo σ.modulus) σ cs servers x r ≡ e_sum (modulo σ.modulus) σ cs servers y r
  unfolding e_sum
  e_same = sum_ext (modulo σ.modulus) servers _ _ (λ i b.
      ap (λ (z : ℕ → ℕ). e_of (modulo σ.modulus) σ cs (first_only (modulo σ.modulus) i) z r) (same i b))

  sigma_same : sigma_sum (modulo σ.modulus) σ cs servers x r ≡ sigma_sum (modulo σ.modulus) σ cs servers y r
  unfolding sigma_sum
  sigma_same = sum_ext (modulo σ.modulus) servers _ _ (λ i b t.
      sigma_of (modulo σ.modulus) σ cs (first_only (modulo σ.modulus) i) (same i b t) r (d_same t) (e_same t))

  tau_same : tau_sum (modulo σ.modulus) σ cs servers x s ≡ tau_sum (modulo σ.modulus) σ cs servers y s
  unfolding tau_sum
  tau_same = sum_ext (modulo σ.modulus) servers _ _ (λ i b.
      ap (λ (z : ℕ → ℕ). tau_of (modulo σ.modulus) σ cs (first_only (modulo σ.modulus) i) z s) (same i b))

  pub lets_in_same : lets_in σ cs servers x r s ≡ lets_in σ cs servers y r s
  unfolding lets_in
  lets_in_same =
      ap₂ (λ (a b : ℕ). allowed_pair σ cs r s && (eqb a 0 && eqb b 0)) sigma_same tau_same

-- with one pair the sums are those that Judging works out from the return
module _ (σ : Setting) (𝓟 : Pool σ) (id r s : ℕ)
    (one : (q : ℕ) → q < 𝓟.servers → ((share_at σ 𝓟 id q).r ≡ r) × ((share_at σ 𝓟 id q).s ≡ s)) where
  d_pair : d_all σ 𝓟 id ≡ d_sum (modulo σ.modulus) σ (columns σ 𝓟) 𝓟.servers (return_of σ 𝓟 id) r
  unfolding d_sum waiting_of
  d_pair = sum_ext (modulo σ.modulus) 𝓟.servers _ _ (λ q b.
      ap (d_of (modulo σ.modulus) σ (columns σ 𝓟) (first_only (modulo σ.modulus) q) (return_of σ 𝓟 id q)) (one q b).0)

  e_pair : e_all σ 𝓟 id ≡ e_sum (modulo σ.modulus) σ (columns σ 𝓟) 𝓟.servers (return_of σ 𝓟 id) r
  unfolding e_sum waiting_of
  e_pair = sum_ext (modulo σ.modulus) 𝓟.servers _ _ (λ q b.
      ap (e_of (modulo σ.modulus) σ (columns σ 𝓟) (first_only (modulo σ.modulus) q) (return_of σ 𝓟 id q)) (one q b).0)

  sigma_pair : sigma_all σ 𝓟 id ≡ sigma_sum (modulo σ.modulus) σ (columns σ 𝓟) 𝓟.servers (return_of σ 𝓟 id) r
  unfolding sigma_sum waiting_of sigma_in sigma_of
  sigma_pair = sum_ext (modulo σ.modulus) 𝓟.servers _ _ (λ q b t.
      sigma_of (modulo σ.modulus) σ (columns σ 𝓟) (first_only (modulo σ.modulus) q) (return_of σ 𝓟 id q) ((one q b).0 t)
      (d_pair t) (e_pair t))

  tau_pair : tau_all σ 𝓟 id ≡ tau_sum (modulo σ.modulus) σ (columns σ 𝓟) 𝓟.servers (return_of σ 𝓟 id) s
  unfolding tau_sum waiting_of
  tau_pair = sum_ext (modulo σ.modulus) 𝓟.servers _ _ (λ q b.
      ap (tau_of (modulo σ.modulus) σ (columns σ 𝓟) (first_only (modulo σ.modulus) q) (return_of σ 𝓟 id q)) (one q b).1)

  verdict_pair : allowed_pair σ (columns σ 𝓟) r s ≡ true
      → verdict_all σ 𝓟 id ≡ lets_in σ (columns σ 𝓟) 𝓟.servers (return_of σ 𝓟 id) r s
  unfolding lets_in
  verdict_pair a = rw (a, sigma_pair, tau_pair)

module _ (σ : Setting) (facts : Facts σ) (𝓟 : Pool σ) (𝓤 : Unaltered σ 𝓟) (i : ℕ) (l : i < 𝓟.servers) (id : ℕ) (v : Bool)
    (k : JudgedToEnd σ 𝓟 i id v) where
  -- each server noted a share, with the pair of the one that is noted here
  at : (q : ℕ) → q < 𝓟.servers → Noted σ 𝓟 id q × Summed σ 𝓟 id q
  at = judged_everywhere σ 𝓟 facts 𝓤 i l id v k

  abbrev mine : Note
  mine = share_at σ 𝓟 id i

  allowed : allowed_pair σ (columns σ 𝓟) mine.r mine.s ≡ true
  allowed = (sound_at_lem σ 𝓟 i l).pairs mine (at i l).0.is_in

  pair : (q : ℕ) → q < 𝓟.servers → ((share_at σ 𝓟 id q).r ≡ mine.r) × ((share_at σ 𝓟 id q).s ≡ mine.s)
  pair q b = one_pair σ 𝓟 facts 𝓤 id i l (at i l).1 q i b l

  lets : v ≡ lets_in σ (columns σ 𝓟) 𝓟.servers (return_of σ 𝓟 id) mine.r mine.s
  lets = agreed σ 𝓟 facts 𝓤 i l id v k ∙ verdict_pair σ 𝓟 id mine.r mine.s pair allowed

  -- 5
  pub verdict : JudgedByPair σ 𝓟 id v
  verdict = record {
    r = mine.r;
    s = mine.s;
    taken = λ q b. subst (λ (u : ℕ). In u (ids_of (notes_at σ 𝓟 q))) (at q b).0.has_id
        (in_map (λ (u : Note). u.id) (share_at σ 𝓟 id q) (notes_at σ 𝓟 q) (at q b).0.is_in);
    one_pair = λ q b n a e. (
        let this : share_at σ 𝓟 id q ≡ n = found σ 𝓟 id q b n a e in
        (ap (λ (u : Note). u.r) (sym this) ∙ (pair q b).0, ap (λ (u : Note). u.s) (sym this) ∙ (pair q b).1));
    verdict_is = lets;
  }

  -- 6
  pub honest : DeliveredWhole σ 𝓟 id → v ≡ true
  honest w =
      lets
      ∙ lets_in_same σ (columns σ 𝓟) 𝓟.servers (return_of σ 𝓟 id)
      (λ i e. get_or (made_share σ (columns σ 𝓟) 𝓟.servers w.values w.random i) e 0)
      (λ q b t e. get_or (w.noted q b t) e 0) mine.r mine.s
      ∙ sheet_honest_let_in σ facts 𝓟.sheet (columns σ 𝓟) (is_read σ 𝓟) 𝓟.servers 𝓟.some_server
      w.values w.random w.legal (all_of_below σ.modulus w.random w.below) mine.r mine.s allowed
