-- Tests that compute, for runs that are given: whether numbers make a pool, whether a message brings a share, whether a pool meets the
-- conditions of whole runs, whether all servers have closed or stopped between verdict and entry, whether a return is delivered whole,
-- whether servers are ready for one. Each is proved to say what it tests. Assumes nothing.
use mathlib.Core.Path.{◌≡◌, refl, ap}
use mathlib.Core.Logic.{◌⊎◌, ⊎_elim, inl, inr}
use mathlib.Core.Bool.{Bool, true, false, not, ◌&&◌, ◌||◌, false≢true}
use mathlib.Core.List.{List, [], ◌∷◌}
use Prim.Native.Nat.{ℕ, ◌+◌, ◌<◌}
use borrow.Author.Tests.{eqb-true, ltb-true, leb-true, not-true}
use lib.Dec.{eqb, ltb, leb}
use lib.ListN.{length}
use Rattle.algebra.specs.Lists.{In, every, count_from}
use Rattle.algebra.proofs.Members.{and_left, and_right, every_all, all_in, all_map}
use Rattle.words.specs.Bytes.{all_below, same_bytes}
use Rattle.words.proofs.Below.{all_of_below}
use Rattle.words.proofs.Same.{same_equal}
use Rattle.rules.specs.Settings.{Setting}
use Rattle.rules.specs.Columns.{Column}
use Rattle.rules.specs.Values.{legal_values}
use Rattle.rules.specs.Judging.{allowed_pair}
use Rattle.rules.specs.Making.{made_share, random_count}
use Rattle.rules.specs.Messages.{id_in, server_in, share_in, header_fault, elements_fault, round_length}
use Rattle.rules.specs.Server.{is_member, most_waiting}
use Rattle.rules.specs.Table.{Lent}
use Rattle.rules.specs.Ledger.{Call, share, round_one, round_two, enter, drop, close, Answer, refused, wrote, judged, done}
use Rattle.rules.specs.Ledger.{Pending, is_accepted, Progress, is_open, is_closed, waiting, empty, ids_of}
use Rattle.rules.specs.Pools.{BytesIn, opens_in, Pool, columns, opened_at, ledger_at, answers_at, accepted_at, entered_at, dropped_at}
use Rattle.rules.specs.Pools.{handed_in, notes_at, note_under, Conditions, AllClosed}
use Rattle.rules.specs.WholeRun.{Brings, Ready}
use Rattle.rules.specs.Resumed.{to_enter, Stopped}
use Rattle.rules.specs.Made.{MadeOf}
use Rattle.rules.proofs.Histories.Checks.{every_at}
use Rattle.rules.proofs.Histories.Keyed.{no_member_in}

or_split : (a b : Bool) → (a || b) ≡ true → (a ≡ true) ⊎ (b ≡ true)
or_split true b e = inl refl
or_split false b e = inr e

every_in : {A : Type 0} (t : A → Bool) (s : List A) → every t s ≡ true → (x : A) → In x s → t x ≡ true
every_in t s e x h = all_in x s (every_all t s e) h

-- ---- bytes
unfoldable pub bytes_call : Call → Bool
bytes_call (share m r s room) = all_below 256 m
bytes_call (round_one id joined room) = all_below 256 joined
bytes_call (round_two id joined) = all_below 256 joined
bytes_call (enter id) = true
bytes_call (drop id) = true
bytes_call (close room) = true

pub bytes_call_lem : (c : Call) → bytes_call c ≡ true → BytesIn c
unfolding bytes_call
bytes_call_lem (share m r s room) e = all_of_below 256 m e
bytes_call_lem (round_one id joined room) e = all_of_below 256 joined e
bytes_call_lem (round_two id joined) e = all_of_below 256 joined e
bytes_call_lem (enter id) e = tt
bytes_call_lem (drop id) e = tt
bytes_call_lem (close room) e = tt

-- ---- a pool
module _ (σ : Setting) (servers : ℕ) (sheet : List ℕ) (returns least : ℕ) (buffers : ℕ → Lent) (calls : ℕ → List Call) where
  unfoldable pub opens_at : ℕ → Bool
  opens_at i =
      all_below 256 (buffers i).bytes
      && (every bytes_call (calls i) && eqb (opens_in σ servers i sheet returns least (buffers i)) 0)

  unfoldable pub is_pool : Bool
  is_pool = (ltb 0 servers && all_below 256 sheet) && every opens_at (count_from 0 servers)

  module _ (e : is_pool ≡ true) where
    at_server_lem : (i : ℕ) → i < servers → opens_at i ≡ true
    unfolding is_pool
    at_server_lem = every_at opens_at servers (and_right (ltb 0 servers && all_below 256 sheet) (every opens_at (count_from 0 servers)) e)

    pub some_servers : ltb 0 servers ≡ true
    unfolding is_pool
    some_servers = and_left (ltb 0 servers) (all_below 256 sheet) (and_left (ltb 0 servers && all_below 256 sheet) _ e)

    pub sheet_is : all_below 256 sheet ≡ true
    unfolding is_pool
    sheet_is = and_right (ltb 0 servers) (all_below 256 sheet) (and_left (ltb 0 servers && all_below 256 sheet) _ e)

    pub buffer_is : (i : ℕ) → i < servers → all_below 256 (buffers i).bytes ≡ true
    unfolding opens_at
    buffer_is i l = and_left (all_below 256 (buffers i).bytes) _ (at_server_lem i l)

    pub calls_are : (i : ℕ) → i < servers → every bytes_call (calls i) ≡ true
    unfolding opens_at
    calls_are i l = and_left (every bytes_call (calls i)) _ (and_right (all_below 256 (buffers i).bytes) _ (at_server_lem i l))

    pub opens_is : (i : ℕ) → i < servers → eqb (opens_in σ servers i sheet returns least (buffers i)) 0 ≡ true
    unfolding opens_at
    opens_is i l = and_right (every bytes_call (calls i)) _ (and_right (all_below 256 (buffers i).bytes) _ (at_server_lem i l))

    abbrev pub pool_of : Pool σ
    pool_of = record {
      servers = servers;
      sheet = sheet;
      returns = returns;
      least = least;
      buffers = buffers;
      calls = calls;
      sheet_bytes = all_of_below 256 sheet sheet_is;
      buffer_bytes = λ i l. all_of_below 256 (buffers i).bytes (buffer_is i l);
      call_bytes = λ i l. all_map bytes_call_lem (every_all bytes_call (calls i) (calls_are i l));
      some_server = ltb-true 0 servers some_servers;
      opens = λ i l. eqb-true _ 0 (opens_is i l);
    }

-- ---- a share message of either kind, and the share that it brings
module _ (σ : Setting) (cs : List Column) (id i : ℕ) (m xs : List ℕ) where
  abbrev no_fault : Bool
  no_fault = eqb (header_fault σ cs i m) 0 && eqb (elements_fault σ cs m) 0

  abbrev says_share : Bool
  says_share = eqb (id_in m) id && same_bytes (share_in σ cs m) xs

  unfoldable pub does_bring : Bool
  does_bring = no_fault && says_share

  pub does_bring_lem : does_bring ≡ true → Brings σ cs id i m xs
  unfolding does_bring
  does_bring_lem e =
      let sound : no_fault ≡ true = and_left no_fault says_share e in
      let says : says_share ≡ true = and_right no_fault says_share e in
      record {
        named = λ fits. eqb-true _ _ (and_left (eqb (id_in m) id) (same_bytes (share_in σ cs m) xs) says);
        header = eqb-true _ _ (and_left (eqb (header_fault σ cs i m) 0) (eqb (elements_fault σ cs m) 0) sound);
        elements = eqb-true _ _ (and_right (eqb (header_fault σ cs i m) 0) (eqb (elements_fault σ cs m) 0) sound);
        says = same_equal _ _ (and_right (eqb (id_in m) id) (same_bytes (share_in σ cs m) xs) says);
      }

-- ---- the conditions
unfoldable pub has_written : List ℕ → List Answer → Bool
has_written m [] = false
has_written m (refused n ∷ xs) = has_written m xs
has_written m (wrote x ∷ xs) = same_bytes x m || has_written m xs
has_written m (judged b ∷ xs) = has_written m xs
has_written m (done ∷ xs) = has_written m xs

written_in : (m : List ℕ) (xs : List Answer) → has_written m xs ≡ true → In (wrote m) xs
unfolding has_written
written_in m [] e = absurd (false≢true e)
written_in m (refused n ∷ xs) e = inr (written_in m xs e)
written_in m (wrote x ∷ xs) e =
    ⊎_elim (λ q. inl (ap wrote (same_equal x m q))) (λ q. inr (written_in m xs q)) (or_split (same_bytes x m) (has_written m xs) e)
written_in m (judged b ∷ xs) e = inr (written_in m xs e)
written_in m (done ∷ xs) e = inr (written_in m xs e)

module _ (σ : Setting) (𝓟 : Pool σ) where
  abbrev each : (ℕ → ℕ → Bool) → Bool
  each t = every (λ i. every (t i) (count_from 0 𝓟.servers)) (count_from 0 𝓟.servers)

  each_at : (t : ℕ → ℕ → Bool) → each t ≡ true → (i j : ℕ) → i < 𝓟.servers → j < 𝓟.servers → t i j ≡ true
  each_at t e i j l b =
      every_at (t i) 𝓟.servers (every_at (λ i. every (t i) (count_from 0 𝓟.servers)) 𝓟.servers e i l) j b

  abbrev unaltered_at : ℕ → Bool
  unaltered_at i =
      every (λ m. has_written m (answers_at σ 𝓟 (server_in m))) (handed_in σ (opened_at σ 𝓟 i) empty (𝓟.calls i))

  abbrev unaltered_all : Bool
  unaltered_all = every unaltered_at (count_from 0 𝓟.servers)

  abbrev drops_at : ℕ → ℕ → Bool
  drops_at i j = every (λ id. not (is_member id (entered_at σ 𝓟 j))) (dropped_at σ 𝓟 i)

  unfoldable pub meets : Bool
  meets = unaltered_all && each drops_at

  pub meets_conditions : meets ≡ true → Conditions σ 𝓟
  unfolding meets
  meets_conditions e = record {
    unaltered = λ i l m h. written_in m (answers_at σ 𝓟 (server_in m))
        (every_in _ (handed_in σ (opened_at σ 𝓟 i) empty (𝓟.calls i))
        (every_at unaltered_at 𝓟.servers (and_left unaltered_all (each drops_at) e) i l) m h);
    same_drops = λ i j l b id h k. no_member_in id (entered_at σ 𝓟 j)
        (not-true _ (every_in _ (dropped_at σ 𝓟 i)
        (each_at drops_at (and_right unaltered_all (each drops_at) e) i j l b) id h)) k;
  }

  unfoldable pub is_ended : Progress → Bool
  is_ended (is_open ws) = false
  is_ended is_closed = true

  is_closed_lem : (p : Progress) → is_ended p ≡ true → p ≡ is_closed
  unfolding is_ended
  is_closed_lem (is_open ws) e = absurd (false≢true e)
  is_closed_lem is_closed e = refl

  unfoldable pub all_ended : Bool
  all_ended = every (λ i. is_ended (ledger_at σ 𝓟 i).progress) (count_from 0 𝓟.servers)

  pub all_closed : all_ended ≡ true → AllClosed σ 𝓟
  unfolding all_ended
  all_closed e i l =
      is_closed_lem (ledger_at σ 𝓟 i).progress (every_at (λ i. is_ended (ledger_at σ 𝓟 i).progress) 𝓟.servers e i l)

  -- ---- stopped between verdict and entry, with Q reached at server `one`
  abbrev waits_accepted : ℕ → Bool
  waits_accepted i = every is_accepted (waiting (ledger_at σ 𝓟 i).progress)

  abbrev kept_at : ℕ → ℕ → Bool
  kept_at i j = every (λ id. not (is_member id (dropped_at σ 𝓟 j))) (accepted_at σ 𝓟 i)

  abbrev reached_at : ℕ → Bool
  reached_at one = ltb one 𝓟.servers && leb 𝓟.least (length (to_enter σ 𝓟 one))

  unfoldable pub has_stopped : ℕ → Bool
  has_stopped one = reached_at one && (every waits_accepted (count_from 0 𝓟.servers) && each kept_at)

  pub has_stopped_lem : (one : ℕ) → has_stopped one ≡ true → Stopped σ 𝓟
  unfolding has_stopped
  has_stopped_lem one e =
      let all : Bool = every waits_accepted (count_from 0 𝓟.servers) in
      let rest : (all && each kept_at) ≡ true = and_right (reached_at one) (all && each kept_at) e in
      let at_one : reached_at one ≡ true = and_left (reached_at one) (all && each kept_at) e in
      let enough : Bool = leb 𝓟.least (length (to_enter σ 𝓟 one)) in
      record {
        only_accepted = λ i l p h. every_in is_accepted (waiting (ledger_at σ 𝓟 i).progress)
            (every_at waits_accepted 𝓟.servers (and_left all (each kept_at) rest) i l) p h;
        none_dropped = λ i j l b id h k. no_member_in id (dropped_at σ 𝓟 j)
            (not-true _ (every_in _ (accepted_at σ 𝓟 i) (each_at kept_at (and_right all (each kept_at) rest) i j l b) id h)) k;
        one = one;
        is_server = ltb-true one 𝓟.servers (and_left (ltb one 𝓟.servers) enough at_one);
        reached = leb-true _ _ (and_right (ltb one 𝓟.servers) enough at_one);
      }

  -- the shares noted under the id are those of the values and the random elements
  abbrev whole_at : ℕ → List ℕ → List ℕ → ℕ → Bool
  whole_at id values random i =
      same_bytes (note_under id (notes_at σ 𝓟 i)).elements (made_share σ (columns σ 𝓟) 𝓟.servers values random i)

  abbrev random_is : List ℕ → Bool
  random_is random = eqb (length random) (random_count 𝓟.servers (columns σ 𝓟)) && all_below σ.modulus random

  unfoldable pub is_whole : ℕ → List ℕ → List ℕ → Bool
  is_whole id values random =
      (legal_values (columns σ 𝓟) values && random_is random) && every (whole_at id values random) (count_from 0 𝓟.servers)

  pub made_of : (id : ℕ) (values random : List ℕ) → is_whole id values random ≡ true → MadeOf σ 𝓟 id values
  unfolding is_whole
  made_of id values random e =
      let long : Bool = eqb (length random) (random_count 𝓟.servers (columns σ 𝓟)) in
      let low : Bool = all_below σ.modulus random in
      let fit : Bool = legal_values (columns σ 𝓟) values in
      let all : Bool = every (whole_at id values random) (count_from 0 𝓟.servers) in
      let given : (fit && (long && low)) ≡ true = and_left (fit && (long && low)) all e in
      let drawn : (long && low) ≡ true = and_right fit (long && low) given in (
        record {
          values = values;
          random = random;
          legal = and_left fit (long && low) given;
          enough = eqb-true _ _ (and_left long low drawn);
          below = and_right long low drawn;
          noted = λ i l. same_equal _ _
              (every_at (whole_at id values random) 𝓟.servers (and_right (fit && (long && low)) all e) i l);
        },
        refl,
      )

  -- a server is ready for a return
  is_open_lem : (p : Progress) → not (is_ended p) ≡ true → p ≡ is_open (waiting p)
  unfolding is_ended
  is_open_lem (is_open ws) e = refl
  is_open_lem is_closed e = absurd (false≢true e)

  module _ (id : ℕ) (messages shares : ℕ → List ℕ) (r s room roundRoom : ℕ) where
    abbrev waiting_at : ℕ → List Pending
    waiting_at i = waiting (ledger_at σ 𝓟 i).progress

    abbrev room_at : ℕ → Bool
    room_at i =
        ltb (length (waiting_at i)) most_waiting && ltb (length (ledger_at σ 𝓟 i).decided + length (waiting_at i)) 𝓟.returns

    abbrev free_at : ℕ → Bool
    free_at i = not (is_ended (ledger_at σ 𝓟 i).progress) && room_at i

    abbrev new_at : ℕ → Bool
    new_at i = not (is_member id (ids_of (notes_at σ 𝓟 i)))

    abbrev sound_at : ℕ → Bool
    sound_at i = does_bring σ (columns σ 𝓟) id i (messages i) (shares i)

    abbrev rooms : Bool
    rooms = leb (round_length σ 34) room && leb (round_length σ 35) roundRoom

    abbrev given : Bool
    given = ltb id 4294967296 && (allowed_pair σ (columns σ 𝓟) r s && rooms)

    abbrev ready_at : ℕ → Bool
    ready_at i = free_at i && (new_at i && sound_at i)

    unfoldable pub is_ready : Bool
    is_ready = given && every ready_at (count_from 0 𝓟.servers)

    pub is_ready_lem : is_ready ≡ true → Ready σ 𝓟 id shares r s messages room roundRoom
    unfolding is_ready
    is_ready_lem e =
        let rest : Bool = allowed_pair σ (columns σ 𝓟) r s && rooms in
        let g : given ≡ true = and_left given (every ready_at (count_from 0 𝓟.servers)) e in
        let g₂ : rest ≡ true = and_right (ltb id 4294967296) rest g in
        let g₃ : rooms ≡ true = and_right (allowed_pair σ (columns σ 𝓟) r s) rooms g₂ in
        let at : (i : ℕ) → i < 𝓟.servers → ready_at i ≡ true =
        every_at ready_at 𝓟.servers (and_right given (every ready_at (count_from 0 𝓟.servers)) e) in
        let free : (i : ℕ) → i < 𝓟.servers → free_at i ≡ true = λ i l. and_left (free_at i) _ (at i l) in
        let have : (i : ℕ) → i < 𝓟.servers → room_at i ≡ true =
        λ i l. and_right (not (is_ended (ledger_at σ 𝓟 i).progress)) _ (free i l) in
        record {
          waits = waiting_at;
          open_all = λ i l. is_open_lem _ (and_left _ (room_at i) (free i l));
          below_eight = λ i l. ltb-true _ _ (and_left (ltb (length (waiting_at i)) most_waiting) _ (have i l));
          fewer = λ i l. ltb-true _ _ (and_right (ltb (length (waiting_at i)) most_waiting) _ (have i l));
          unused = λ i l. no_member_in id (ids_of (notes_at σ 𝓟 i))
              (not-true _ (and_left (new_at i) (sound_at i) (and_right (free_at i) _ (at i l))));
          id_fits = ltb-true _ _ (and_left (ltb id 4294967296) rest g);
          sound = λ i l. does_bring_lem σ (columns σ 𝓟) id i (messages i) (shares i)
              (and_right (new_at i) (sound_at i) (and_right (free_at i) _ (at i l)));
          pair = and_left (allowed_pair σ (columns σ 𝓟) r s) rooms g₂;
          enough = leb-true _ _ (and_left (leb (round_length σ 34) room) (leb (round_length σ 35) roundRoom) g₃);
          enough_one = leb-true _ _ (and_right (leb (round_length σ 34) room) (leb (round_length σ 35) roundRoom) g₃);
        }
