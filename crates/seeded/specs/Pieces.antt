-- The pieces of a return from seeds: what the seeds give added up, server 0's share, the seed messages. And what the functions
-- that write them ask for.
-- Assumes nothing.
use Rattle.std.specs.Prelude.{◌≡◌, List, ℕ, suc, ◌+◌, ◌-◌, ◌*◌, ◌≤◌, ◌<◌, length, get_or}
use Rattle.algebra.specs.Lists.{tabulate}
use Rattle.algebra.specs.Ops.{minus}
use Rattle.algebra.specs.Sums.{sum}
use Rattle.words.specs.Bytes.{elements_of}
use Rattle.field.specs.Residues.{residues, Elements}
use Rattle.rules.specs.Settings.{document01}
use Rattle.rules.specs.Columns.{columns_of}
use Rattle.rules.specs.Judging.{share_size}
use Rattle.rules.specs.Making.{values_fault}
use Rattle.rules.specs.Seeds.{seed_message, seed_at, seed_elements}
use Rattle.rules.specs.Messages.{one_by_one}
use Rattle.columns.specs.declared.Counts.{Counts}
use Rattle.whole.specs.Pieces.{Counted}

-- member by member
unfoldable pub added : List ℕ → List ℕ → List ℕ
added s x = tabulate (λ e. residues.◌⊕◌ (get_or s e 0) (get_or x e 0)) (length s)

unfoldable pub lessened : List ℕ → List ℕ → List ℕ
lessened w x = tabulate (λ e. minus residues (get_or w e 0) (get_or x e 0)) (length w)

-- what the first n seeds give, added up
unfoldable pub seed_sums : List ℕ → ℕ → ℕ → ℕ → List ℕ
seed_sums seeds id size n =
    tabulate (λ e. sum residues n (λ i. get_or (seed_elements document01 (seed_at seeds i) id size) e 0)) size

-- the messages of the first n other servers
unfoldable pub seed_messages : List ℕ → ℕ → ℕ → List ℕ
seed_messages seeds id n = one_by_one (λ i. seed_message id (suc i) (seed_at seeds i)) n

-- the seeds of the other servers, one after another
pub record Seeds (seeds : List ℕ) (others : ℕ) : Type 0 where
  pub few : others ≤ 7
  pub long : length seeds ≡ 32 * others

-- seed j lies within the seeds, and its message within the buffer
pub record SeedPlace (seeds : List ℕ) (first j : ℕ) (out : List ℕ) : Type 0 where
  pub few : j < 7
  pub near : first ≤ 3102
  pub within : 32 * j + 32 ≤ length seeds
  pub room : first + 38 * j + 38 ≤ length out

-- ---- all that writing a return asks for
pub record MakeableSeeded (sheet : List ℕ) (counts : Counts) (servers : ℕ) (values random seeds out : List ℕ) : Type 0 where
  pub counted : Counted sheet counts
  pub several : (2 ≤ servers) × (servers ≤ 8)
  pub legal : values_fault (columns_of sheet) values ≡ 0
  pub four : length random ≡ 16
  pub elements : Elements (elements_of 4 random)
  pub many : length seeds ≡ 32 * (servers - 1)
  pub room : 6 + 4 * share_size (columns_of sheet) + 38 * (servers - 1) ≤ length out
