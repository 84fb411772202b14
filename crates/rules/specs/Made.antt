-- Document 01, "A return" and "Whole runs", and document 02, short shares from seeds: what is promised of the bytes that both ways of
-- making write, and of the totals of returns that making wrote. The last record, `MadeRun`, is the claim with its premises.
-- Assumes nothing.
use Rattle.std.specs.Prelude.{◌≡◌, Bool, true, cond, List, [], ◌∷◌, ◌++◌, map, ℕ, zero, suc, ◌+◌, ◌-◌, ◌*◌, ◌/◌, ◌%◌, ◌^◌, ◌≤◌, ◌<◌, max, eqb, length, get_or, take}
use Rattle.algebra.specs.Lists.{In, Rearranged, sum_over}
use Rattle.algebra.specs.Modulo.{modulo}
use Rattle.algebra.specs.Count.{count_pairs}
use Rattle.words.specs.Bytes.{part, elements_of, all_below}
use Rattle.rules.specs.Settings.{Setting}
use Rattle.rules.specs.Columns.{Column, yes_no, choice, number, point, entries_in, published_in, published_from, sheet_fault, columns_of}
use Rattle.rules.specs.Circuit.{gates_in, tests_in}
use Rattle.rules.specs.Values.{point_entry, legal_values, encoding}
use Rattle.rules.specs.Judging.{share_size, added_up, lets_in, allowed_pair}
use Rattle.rules.specs.Making.{random_count, made_whole, made_share, share_message, share_length, make_refusal, make_bytes}
use Rattle.rules.specs.Seeds.{seed_size, seed_length, seed_message, seed_elements, seed_at, expanded, seeded_length}
use Rattle.rules.specs.Seeds.{make_seeded_refusal, make_seeded_bytes}
use Rattle.rules.specs.Messages.{share_in, round_length}
use Rattle.rules.specs.Server.{most_waiting, message_one, message_two}
use Rattle.rules.specs.Joining.{join_totals}
use Rattle.rules.specs.Ledger.{Call, share, enter, wrote, judged, done, Pending, is_open, empty, ids_of}
use Rattle.rules.specs.Ledger.{note_of, refusal_of, run_ledger, ledger_answers}
use Rattle.rules.specs.Pools.{Pool, columns, opened_at, ledger_at, entered_at, notes_at, return_of, KeepsForm, Conditions}
use Rattle.rules.specs.Pools.{DeliveredWhole, AllClosed}
use Rattle.rules.specs.WholeRun.{closings, Brings, both_rounds, first_wait, firsts, second_wait, seconds}

-- ---- a return made by the rules: the values vs and the random elements zs are numbers, and each server has its message
module _ (σ : Setting) (sheet : List ℕ) (servers id : ℕ) (vs zs : List ℕ) where
  abbrev cs : List Column
  cs = columns_of sheet

  -- server i's share
  abbrev pub share_made : ℕ → List ℕ
  share_made = made_share σ cs servers vs zs

  -- "Servers 1 to S - 1 may get a seed of 32 bytes instead of elements": a message for server i has its share, or a seed that
  -- stands for it
  pub data MessageFor (i : ℕ) (m : List ℕ) : Type 0 where
    long : m ≡ share_message σ id i (share_made i) → MessageFor i m
    short : (seed : List ℕ) → length seed ≡ seed_size → 0 < i → seed_elements σ seed id (share_size cs) ≡ share_made i
        → m ≡ seed_message id i seed → MessageFor i m

  module _ (messages : ℕ → List ℕ) where
    pub record MadeReturn : Type 0 where
      pub is_read : sheet_fault sheet ≡ 0
      pub several : (2 ≤ servers) × (servers ≤ 8)
      pub legal : legal_values cs vs ≡ true
      pub enough : length zs ≡ random_count servers cs
      pub below : all_below σ.modulus zs ≡ true
      pub message_for : (i : ℕ) → i < servers → MessageFor i (messages i)

    -- element e of what server i reads
    abbrev pub element_read : ℕ → ℕ → ℕ
    element_read i e = get_or (share_in σ cs (messages i)) e 0

    -- what the servers read from such messages
    pub record ReadBack : Type 0 where
      -- server i finds nothing at fault in its message, and reads its share and the id from it
      pub brings : (i : ℕ) → i < servers → Brings σ cs id i (messages i) (share_made i)
      -- "Server 0's share is what remains." "Shares of S servers (2 to 8) add up modulo p": to the entries, which are the
      -- encoding of the values, and their proof
      pub adds_up : (e : ℕ)
          → added_up (modulo σ.modulus) σ cs servers element_read e ≡ get_or (made_whole σ cs servers vs zs) e 0
      pub entries_add_up : (e : ℕ) → e < entries_in cs
          → added_up (modulo σ.modulus) σ cs servers element_read e ≡ get_or (encoding cs vs) e 0

-- ---- the bytes that making writes
module _ (σ : Setting) (sheet : List ℕ) (servers id : ℕ) (values random : List ℕ) where
  -- server i's part of them
  abbrev pub made_part : ℕ → List ℕ
  made_part i =
      part (share_length σ (columns_of sheet) * i) (share_length σ (columns_of sheet)) (make_bytes σ sheet servers id values random)

  pub record MadeBytes : Type 0 where
    -- "Making writes the S share messages one after another in server order, all with the id it is given."
    pub length_is : length (make_bytes σ sheet servers id values random) ≡ servers * share_length σ (columns_of sheet)
    pub message_is : (i : ℕ) → i < servers
        → made_part i ≡ share_message σ id i (share_made σ sheet servers id (elements_of 4 values) (elements_of σ.width random) i)
    pub return : MadeReturn σ sheet servers id (elements_of 4 values) (elements_of σ.width random) made_part
    -- "Random elements come in this order: u_0, v_0, a, b, then the whole shares of servers 1 to S - 1." Each of these is
    -- its own part of the random elements as they were handed to making
    pub drawn : (i : ℕ) → suc i < servers
        → share_in σ (columns_of sheet) (made_part (suc i))
        ≡ part (4 + i * share_size (columns_of sheet)) (share_size (columns_of sheet)) (elements_of σ.width random)

-- ---- the bytes that making from seeds writes
module _ (σ : Setting) (sheet : List ℕ) (servers id : ℕ) (values random seeds : List ℕ) where
  -- server i's part of them
  unfoldable pub seeded_part : ℕ → List ℕ
  seeded_part zero = part 0 (share_length σ (columns_of sheet)) (make_seeded_bytes σ sheet servers id values random seeds)
  seeded_part (suc i) =
      part (share_length σ (columns_of sheet) + seed_length * i) seed_length (make_seeded_bytes σ sheet servers id values random seeds)

  -- the random elements that were handed in and those that the seeds stand for
  abbrev pub drawn_seeds : List ℕ
  drawn_seeds = expanded σ (columns_of sheet) servers id random seeds

  pub record SeededBytes : Type 0 where
    -- "server 0's long message is written first, then the seed messages in server order"
    pub length_is : length (make_seeded_bytes σ sheet servers id values random seeds) ≡ seeded_length σ (columns_of sheet) servers
    pub first_is : seeded_part 0 ≡ share_message σ id 0 (share_made σ sheet servers id (elements_of 4 values) drawn_seeds 0)
    pub seed_is : (i : ℕ) → suc i < servers → seeded_part (suc i) ≡ seed_message id (suc i) (seed_at seeds i)
    pub return : MadeReturn σ sheet servers id (elements_of 4 values) drawn_seeds seeded_part
    -- "u_0, v_0, a, b and S - 1 seeds, those of servers 1 to S - 1 in order"
    pub four_are : take 4 drawn_seeds ≡ elements_of σ.width random
    pub drawn : (i : ℕ) → suc i < servers
        → share_in σ (columns_of sheet) (seeded_part (suc i)) ≡ seed_elements σ (seed_at seeds i) id (share_size (columns_of sheet))

-- ---- in a pool
-- how many members pass t
unfoldable pub how_many : (ℕ → Bool) → List ℕ → ℕ
how_many t [] = 0
how_many t (x ∷ s) = cond (t x) (suc (how_many t s)) (how_many t s)

module _ (σ : Setting) (𝓟 : Pool σ) where
  -- server i's ledger has noted the share message m, with some pair
  abbrev pub NotedFrom : ℕ → List ℕ → Type 0
  NotedFrom i m = (r : ℕ) × (s : ℕ) × In (note_of σ (opened_at σ 𝓟 i) m r s) (notes_at σ 𝓟 i)

  -- server i took the share message m: a call of its list that is not refused
  pub record Took (i : ℕ) (m : List ℕ) : Type 0 where
    pub before : List Call
    pub after : List Call
    pub r : ℕ
    pub s : ℕ
    pub room : ℕ
    pub among : 𝓟.calls i ≡ before ++ (share m r s room ∷ after)
    pub not_refused : refusal_of σ (opened_at σ 𝓟 i) (run_ledger σ (opened_at σ 𝓟 i) empty before) (share m r s room) ≡ 0

  -- "delivered whole when each server noted the share that making wrote for it": so is the return id, made of the values vs
  abbrev pub MadeOf : ℕ → List ℕ → Type 0
  MadeOf id vs = (w : DeliveredWhole σ 𝓟 id) × (w.values ≡ vs)

  -- servers that can take a return under the id with the pair r and s: as in `Ready`, with no word of its shares
  pub record CanTake (id r s room roundRoom : ℕ) : Type 0 where
    pub waits : ℕ → List Pending
    pub open_all : (i : ℕ) → i < 𝓟.servers → (ledger_at σ 𝓟 i).progress ≡ is_open (waits i)
    pub below_eight : (i : ℕ) → i < 𝓟.servers → length (waits i) < most_waiting
    pub fewer : (i : ℕ) → i < 𝓟.servers → length (ledger_at σ 𝓟 i).decided + length (waits i) < 𝓟.returns
    pub unused : (i : ℕ) → i < 𝓟.servers → In id (ids_of (notes_at σ 𝓟 i)) → ⊥
    pub id_fits : id < 4294967296
    pub pair : allowed_pair σ (columns σ 𝓟) r s ≡ true
    pub enough : round_length σ 34 ≤ room
    pub enough_one : round_length σ 35 ≤ roundRoom

  -- such servers accept and enter a return that making wrote: each is handed its message, both rounds' messages as they
  -- were written, in any order, and the entry; it writes two messages, accepts and enters
  abbrev pub MadeAccepted : ℕ → List ℕ → List ℕ → (ℕ → List ℕ) → ℕ → ℕ → ℕ → ℕ → Type 0
  MadeAccepted id vs zs messages r s room roundRoom =
      let shares = share_made σ 𝓟.sheet 𝓟.servers id vs zs in
      (i : ℕ) → i < 𝓟.servers → (ones twos : List (List ℕ))
      → Rearranged ones (firsts σ 𝓟 id shares r s) → Rearranged twos (seconds σ 𝓟 id shares r s)
      → ledger_answers σ (opened_at σ 𝓟 i) (ledger_at σ 𝓟 i)
      (share (messages i) r s room
      ∷ (both_rounds id ones twos roundRoom ++ (enter id ∷ [])))
      ≡ wrote (message_one σ (opened_at σ 𝓟 i) (first_wait σ 𝓟 id shares r s i))
      ∷ wrote (message_two σ (opened_at σ 𝓟 i) (second_wait σ 𝓟 id shares r s i))
      ∷ judged true
      ∷ done
      ∷ []

  -- what joining the closing messages gives
  abbrev pub joined_totals : List ℕ
  joined_totals = join_totals σ 𝓟.servers 𝓟.sheet (closings σ 𝓟)

  -- "joining gives their number and the sums of the added-up published entries": the joined totals of a closed pool where
  -- each of the entered ids was made of the values `values id`
  pub record EncodedTotals (ids : List ℕ) (values : ℕ → List ℕ) : Type 0 where
    -- for each published entry, the sum of that entry of the encodings: a sum of whole numbers, not modulo p
    pub totals : joined_totals
        ≡ map (λ e. sum_over (λ id. get_or (encoding (columns σ 𝓟) (values id)) e 0) ids) (published_from 0 (columns σ 𝓟))
    -- behind the columns `before`: a yes/no column's total is the number of entered returns that say yes
    pub yes_total : (before after : List Column) → columns σ 𝓟 ≡ before ++ (yes_no ∷ after)
        → get_or joined_totals (published_in before) 0 ≡ how_many (λ id. eqb (get_or (values id) (length before) 0) 1) ids
    -- an option's total is the number of those that chose it
    pub option_total : (before after : List Column) (n i : ℕ) → columns σ 𝓟 ≡ before ++ (choice n ∷ after) → i < n
        → get_or joined_totals (published_in before + i) 0 ≡ how_many (λ id. eqb (get_or (values id) (length before) 0) i) ids
    -- a number's total is the sum of the numbers
    pub number_total : (before after : List Column) (n : ℕ) → columns σ 𝓟 ≡ before ++ (number n ∷ after)
        → get_or joined_totals (published_in before) 0 ≡ sum_over (λ id. get_or (values id) (length before) 0) ids
    -- the four totals of a column of points are the sums of x, x × x, y and x × y, where the value is x + 2^b × y
    pub point_total : (before after : List Column) (n i : ℕ) → columns σ 𝓟 ≡ before ++ (point n ∷ after) → i < 4
        → get_or joined_totals (published_in before + i) 0
        ≡ sum_over (λ id. point_entry n (get_or (values id) (length before) 0 % 2 ^ n) (get_or (values id) (length before) 0 / 2 ^ n) i) ids

-- WHAT IS PROMISED of returns that making wrote, in any pool
pub record MadeRun (σ : Setting) (𝓟 : Pool σ) : Type 0 where
  -- 1. Where making is not refused, for any sheet and S: its bytes are S share messages, one for each server, with the random
  -- elements handed in for shares but the first
  pub made : (sheet : List ℕ) (servers id : ℕ) (values random : List ℕ) (room : ℕ)
      → make_refusal σ sheet servers values random room ≡ 0 → MadeBytes σ sheet servers id values random
  -- and from seeds: server 0's message, and a seed for each of the others
  pub made_seeded_lem : (sheet : List ℕ) (servers id : ℕ) (values random seeds : List ℕ) (room : ℕ)
      → make_seeded_refusal σ sheet servers values random seeds room ≡ 0 → SeededBytes σ sheet servers id values random seeds
  -- of either return, and of every other in which some servers get elements and some a seed: the messages are sound, and the shares
  -- add up to the encoding of the values with its proof
  pub read_back : (sheet : List ℕ) (servers id : ℕ) (vs zs : List ℕ) (messages : ℕ → List ℕ)
      → MadeReturn σ sheet servers id vs zs messages → ReadBack σ sheet servers id vs zs messages
  -- 2. Where each server took its message of such a return, it is delivered whole
  pub delivered : (id : ℕ) (vs zs : List ℕ) (messages : ℕ → List ℕ) → MadeReturn σ 𝓟.sheet 𝓟.servers id vs zs messages
      → id < 4294967296 → ((i : ℕ) → i < 𝓟.servers → Took σ 𝓟 i (messages i)) → MadeOf σ 𝓟 id vs
  -- 3. Servers that can take a return refuse nothing of such a one, accept it and enter it
  pub accepted : (id : ℕ) (vs zs : List ℕ) (messages : ℕ → List ℕ) → MadeReturn σ 𝓟.sheet 𝓟.servers id vs zs messages
      → (r s lent roundLent : ℕ) → CanTake σ 𝓟 id r s lent roundLent → MadeAccepted σ 𝓟 id vs zs messages r s lent roundLent
  -- 4. When all servers have closed, and each return that server i entered is delivered whole: the joined totals are sums of
  -- encodings, and column by column numbers of returns or sums of values
  pub totals : Conditions σ 𝓟 → AllClosed σ 𝓟 → (i : ℕ) → i < 𝓟.servers
      → (values : ℕ → List ℕ) → ((id : ℕ) → In id (entered_at σ 𝓟 i) → MadeOf σ 𝓟 id (values id))
      → EncodedTotals σ 𝓟 (entered_at σ 𝓟 i) values
  -- 5. Any other return: if its added-up entries do not keep their form, at most p × max(2M + 1, K - 1) pairs let it in
  pub few : (id : ℕ) → (KeepsForm σ 𝓟 id → ⊥)
      → count_pairs σ.modulus σ.modulus (lets_in σ (columns σ 𝓟) 𝓟.servers (return_of σ 𝓟 id))
      ≤ σ.modulus * max (suc (gates_in (columns σ 𝓟) + gates_in (columns σ 𝓟))) (tests_in (columns σ 𝓟) - 1)
