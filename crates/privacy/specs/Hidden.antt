-- Document 02, what a curious server learns: "Each such sight comes from exactly as many choices of the random elements with the first
-- list as with the second." So where each choice is as likely as another, the servers but one see nothing of the entries but that they
-- are a valid list.
--
-- What is not said.
-- Short shares: the claim "covers long shares only". Choices of seeds are not counted.
-- Servers that break the rules: all servers keep them here, and one that alters a message may learn more.
-- How random elements are chosen: choices are counted, and that each is as likely as another and known to nobody else is not claimed.
-- Totals: "The published totals are outside the statement." They are sums of values, and of few values they tell much.
-- Timing, and who is connected to whom.
-- Two pairs over one share: both sights together show a difference of f, so an id is used once. And two returns from the same choice:
-- each return has random elements of its own.
-- Assumes nothing.
use Rattle.std.specs.Prelude.{◌≡◌, Bool, true, List, ℕ, ◌<◌, length, get_or}
use Rattle.algebra.specs.Lists.{All}
use Rattle.algebra.specs.Modulo.{modulo}
use Rattle.rules.specs.Settings.{Setting}
use Rattle.rules.specs.Columns.{Column, entries_in, sheet_fault}
use Rattle.rules.specs.Run.{Valid}
use Rattle.rules.specs.Values.{legal_values}
use Rattle.rules.specs.Judging.{allowed_pair}
use Rattle.rules.specs.Making.{random_count, made_share}
use Rattle.privacy.specs.Choices.{count_choices}
use Rattle.privacy.specs.Sight.{Case, columns, share_from, sight, same_sight}

-- "two valid lists of entries": an element for each entry. Document 01: "A list is valid when all tests are zero."
pub record ValidEntries (σ : Setting) (cs : List Column) (xs : List ℕ) : Type 0 where
  pub many : length xs ≡ entries_in cs
  pub below : All (λ x. x < σ.modulus) xs
  pub valid : Valid (modulo σ.modulus) σ cs (λ e. get_or xs e 0)

module _ (σ : Setting) (c : Case) where
  -- "one sheet, one id, one allowed challenge pair, and any one server to leave out": the sheet is read, the id has 4 bytes
  pub record Fits : Type 0 where
    pub is_read : sheet_fault c.sheet ≡ 0
    pub id_fits : c.id < 4294967296
    pub allowed : allowed_pair σ (columns c) c.r c.s ≡ true
    pub is_server : c.left_out < c.servers

  -- how many choices of the random elements have a sight that passes t, where `shares zs` is the return made with the choice zs
  abbrev pub choices_of : (List ℕ → ℕ → List ℕ) → (List (List ℕ) → Bool) → ℕ
  choices_of shares t = count_choices σ.modulus (random_count c.servers (columns c)) (λ zs. t (sight σ c (shares zs)))

  abbrev pub IsValid : List ℕ → Type 0
  IsValid xs = ValidEntries σ (columns c) xs

  -- CLAIM
  pub record Hidden : Type 0 where
    -- "Each such sight comes from exactly as many choices of the random elements with the first list as with the second."
    pub each_sight : (xs ys : List ℕ) → IsValid xs → IsValid ys → (v : List (List ℕ))
        → choices_of (share_from σ c xs) (same_sight v) ≡ choices_of (share_from σ c ys) (same_sight v)
    -- and so it is with any test of the sight, so with any part of it that some of the others see: a test may look at that part alone
    pub each_test : (xs ys : List ℕ) → IsValid xs → IsValid ys → (t : List (List ℕ) → Bool)
        → choices_of (share_from σ c xs) t ≡ choices_of (share_from σ c ys) t
    -- whatever is seen of one list is seen of any other, by some choice
    pub possible : (xs ys : List ℕ) → IsValid xs → IsValid ys → (zs : List ℕ) → length zs ≡ random_count c.servers (columns c)
        → All (λ z. z < σ.modulus) zs
        → 0 < choices_of (share_from σ c ys) (same_sight (sight σ c (share_from σ c xs zs)))
    -- the same for two lists of legal values, and the shares that making makes of them
    pub each_value : (vs ws : List ℕ) → legal_values (columns c) vs ≡ true → legal_values (columns c) ws ≡ true
        → (t : List (List ℕ) → Bool)
        → choices_of (made_share σ (columns c) c.servers vs) t ≡ choices_of (made_share σ (columns c) c.servers ws) t
