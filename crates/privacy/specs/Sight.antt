-- Document 02, what a curious server learns: "Fix two valid lists of entries on one sheet, one id, one allowed challenge pair, and
-- any one server to leave out. Consider everything the others see before the close: their share messages and all round messages."
-- "All servers keep the rules and the workshop makes the return by document 01": each message is what the definitions of rules give.
-- Assumes nothing.
use Rattle.std.specs.Prelude.{Bool, true, false, not, ◌&&◌, ℕ, ◌+◌, ◌*◌, eqb, get_or}
use mathlib.Core.List.{List, [], ◌∷◌, ◌++◌, map, flatten}
use Rattle.algebra.specs.Lists.{tabulate, count_from}
use Rattle.algebra.specs.Modulo.{modulo}
use Rattle.words.specs.Bytes.{same_bytes}
use Rattle.rules.specs.Settings.{Setting}
use Rattle.rules.specs.Columns.{Column, columns_of}
use Rattle.rules.specs.Judging.{share_size}
use Rattle.rules.specs.Making.{whole, share_of, share_message}
use Rattle.rules.specs.Keyed.{those}
use Rattle.rules.specs.Server.{Opened, Waiting, waiting_of, message_one, message_two, summed}

-- What is fixed besides the entries: the sheet, S, and the N and Q that the servers were opened with; the id and the pair; the server
-- that is left out
pub record Case : Type 0 where
  pub sheet : List ℕ
  pub servers : ℕ
  pub returns : ℕ
  pub least : ℕ
  pub id : ℕ
  pub r : ℕ
  pub s : ℕ
  pub left_out : ℕ

abbrev pub columns : Case → List Column
columns c = columns_of c.sheet

-- "the workshop makes the return by document 01": server i's share of a return made of the entries xs and the random elements zs. Of
-- the encoding of values it is the share that making makes of them (`made_of_values` in proofs)
module _ (σ : Setting) (c : Case) (xs zs : List ℕ) where
  abbrev pub whole_from : List ℕ
  whole_from =
      whole (modulo σ.modulus) σ (columns c) (λ e. get_or xs e 0) (get_or zs 0 0) (get_or zs 1 0) (get_or zs 2 0) (get_or zs 3 0)

  abbrev pub share_from : ℕ → List ℕ
  share_from i =
      tabulate
      (share_of (modulo σ.modulus) c.servers (λ e. get_or whole_from e 0) (λ j e. get_or zs (4 + j * share_size (columns c) + e) 0) i)
      (share_size (columns c))

-- "the others": all servers but the one that is left out
abbrev pub others : Case → List ℕ
others c = those (λ i. not (eqb i c.left_out)) (count_from 0 c.servers)

-- what server i was opened with
abbrev pub opened_as : Case → ℕ → Opened
opened_as c i = record { servers = c.servers; own = i; columns = columns c; returns = c.returns; least = c.least }

-- A return of the given shares
module _ (σ : Setting) (c : Case) (shares : ℕ → List ℕ) where
  -- what server i works out from its share
  abbrev pub first_wait : ℕ → Waiting
  first_wait i = waiting_of σ (opened_as c i) c.id (shares i) c.r c.s

  -- "their share messages"
  abbrev pub share_messages : List (List ℕ)
  share_messages = map (λ i. share_message σ c.id i (shares i)) (others c)

  -- "all round messages": of round one; and of round two, each by a server that noted the sums d and e of round one's
  abbrev pub first_messages : List (List ℕ)
  first_messages = map (λ i. message_one σ (opened_as c i) (first_wait i)) (count_from 0 c.servers)

  abbrev pub second_wait : ℕ → Waiting
  second_wait i = summed σ (opened_as c i) (first_wait i) (flatten first_messages)

  abbrev pub second_messages : List (List ℕ)
  second_messages = map (λ i. message_two σ (opened_as c i) (second_wait i)) (count_from 0 c.servers)

  -- "everything the others see before the close"
  unfoldable pub sight : List (List ℕ)
  sight = share_messages ++ (first_messages ++ second_messages)

-- whether two sights are the same, message by message
unfoldable pub same_sight : List (List ℕ) → List (List ℕ) → Bool
same_sight [] [] = true
same_sight [] (n ∷ v) = false
same_sight (m ∷ u) [] = false
same_sight (m ∷ u) (n ∷ v) = same_bytes m n && same_sight u v
