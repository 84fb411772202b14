-- Demand 3 of the C functions: S servers, each with its own list of C calls, and joining at the end. The pool of the rules
-- whose calls these are is told, so that what is claimed of it is claimed of the C calls.
-- Assumes nothing.
use Rattle.std.specs.Prelude.{◌≡◌, true, cond, List, [], ◌∷◌, ◌++◌, map, ℕ, ◌*◌, ◌%◌, ◌≤◌, ◌<◌, eqb, leb, ℤ, length, take}
use Rattle.std.proofs.Common.{sym}
use Rattle.algebra.specs.Lists.{In, Distinct, Rearranged, sum_over}
use Rattle.words.specs.Bytes.{bytes_of_all}
use Rattle.rules.specs.Settings.{document01}
use Rattle.rules.specs.Columns.{check, published_in, published_from}
use Rattle.rules.specs.Messages.{server_in, one_by_one}
use Rattle.rules.specs.Ledger.{wrote, is_closed, empty, closing_message}
use Rattle.rules.specs.Pools.{Bytes, Pool, columns, opened_at, ledger_at, entered_at, dropped_at, added_entry, KeepsForm, messages_in}
use Rattle.rules.specs.Pools.{handed_in, Unaltered, Conditions}
use Rattle.rules.specs.WholeRun.{WholeRun}
use Rattle.rules.specs.Line.{names_point}
use Rattle.rules.specs.Resumed.{Resumes}
use Rattle.rules.specs.State.{State, ledger_tells}
use Rattle.pool_server.specs.Calls.{TellsState}
use Rattle.pool_totals.specs.Calls.{Joins, TellsLine}
use Rattle.calls.specs.Calls.{CCall, pool_share, pool_round_one, pool_round_two, pool_enter, pool_drop, pool_close, call_of}
use Rattle.calls.specs.Calls.{answer_of, Log, Serves, Tells}
use Rattle.calls.specs.Lines.{LineTold}

-- "Servers are opened alike when S, sheet and N are the same and their numbers are 0 to S - 1, one each." "Servers opened alike have the
-- same Q too."
pub record Servers : Type 0 where
  pub servers : ℕ
  pub sheet : List ℕ
  pub returns : ℕ
  pub least : ℕ
  pub log : ℕ → Log
  pub some_server : 0 < servers
  pub sheet_bytes : Bytes sheet
  pub serves : (i : ℕ) → i < servers → Serves servers i sheet returns least (log i)

-- the messages that stand in the round calls that returned 0, `servers` of them in each
abbrev pub rounds_in : ℕ → CCall → List (List ℕ)
rounds_in servers (pool_share T m r s out w a T' out' w') = []
rounds_in servers (pool_round_one T id joined out w a T' out' w') = cond (eqb a 0) (messages_in document01 servers 34 joined) []
rounds_in servers (pool_round_two T id joined v a T' v') = cond (eqb a 0) (messages_in document01 servers 35 joined) []
rounds_in servers (pool_enter T id a T') = []
rounds_in servers (pool_drop T id a T') = []
rounds_in servers (pool_close T out w a T' out' w') = []

-- the bytes that pool_close wrote where it returned 0
abbrev pub closings_in : CCall → List (List ℕ)
closings_in (pool_share T m r s out w a T' out' w') = []
closings_in (pool_round_one T id joined out w a T' out' w') = []
closings_in (pool_round_two T id joined v a T' v') = []
closings_in (pool_enter T id a T') = []
closings_in (pool_drop T id a T') = []
closings_in (pool_close T out w a T' out' w') = cond (eqb a 0) (take w' out' ∷ []) []

unfoldable pub over : (CCall → List (List ℕ)) → List CCall → List (List ℕ)
over f [] = []
over f (c ∷ cs) = f c ++ over f cs

module _ (𝓢 : Servers) where
  -- the pool whose calls are what the C calls asked
  abbrev pub pool_of : Pool document01
  pool_of = record {
    servers = 𝓢.servers;
    sheet = 𝓢.sheet;
    returns = 𝓢.returns;
    least = 𝓢.least;
    buffers = λ i. (𝓢.log i).buffer;
    calls = λ i. map call_of (𝓢.log i).calls;
    sheet_bytes = 𝓢.sheet_bytes;
    buffer_bytes = λ i h. (𝓢.serves i h).buffer_bytes;
    call_bytes = λ i h. (𝓢.serves i h).call_bytes;
    some_server = 𝓢.some_server;
    opens = λ i h. sym (𝓢.serves i h).opens.answer_is;
  }

  -- "Round messages are unaltered when each one in a round call that is not refused is the one that the named server wrote
  -- for that id and round."
  abbrev pub CUnaltered : Type 0
  CUnaltered =
      (i : ℕ) → i < 𝓢.servers → (m : List ℕ) → In m (over (rounds_in 𝓢.servers) (𝓢.log i).calls)
      → In (wrote m) (map answer_of (𝓢.log (server_in m)).calls)

  -- "Entries, like drops, reach every server in the same order: no id dropped at one server is entered at another, whatever its
  -- verdict there."
  pub record CConditions : Type 0 where
    pub unaltered : CUnaltered
    pub same_drops : (i j : ℕ) → i < 𝓢.servers → j < 𝓢.servers → (id : ℕ) → In id (dropped_at document01 pool_of i)
        → In id (entered_at document01 pool_of j) → ⊥

  -- what pool_join returned and left, handed the closing messages
  pub record Totals (out : List ℕ) (a : ℕ) (out' : List ℕ) (accepted' written' : ℕ) : Type 0 where
    -- the entered ids, the same at each server
    pub ids : List ℕ
    pub distinct : Distinct ids
    pub same_ids : (i : ℕ) → i < 𝓢.servers → Rearranged (entered_at document01 pool_of i) ids
    -- it is refused 14 at most; else their number stands behind `accepted`
    pub number : a ≡ check (leb (4 * published_in (columns document01 pool_of)) (length out)) 14
    pub count : a ≡ 0 → accepted' ≡ length ids
    -- which is Q at least
    pub enough : a ≡ 0 → 𝓢.least ≤ accepted'
    -- and the bytes written are, for each published entry, the sum modulo p of the added-up entry over these ids
    pub totals : a ≡ 0 → take written' out'
        ≡ bytes_of_all 4 (map (λ e. sum_over (λ id. added_entry document01 pool_of id e) ids % document01.modulus)
        (published_from 0 (columns document01 pool_of)))
    -- where every entered return keeps its form the sum itself
    pub whole : ((id : ℕ) → In id ids → KeepsForm document01 pool_of id) → a ≡ 0 → take written' out'
        ≡ bytes_of_all 4 (map (λ e. sum_over (λ id. added_entry document01 pool_of id e) ids) (published_from 0 (columns document01 pool_of)))

  -- CLAIM, DEMAND 3: what every list of C calls at S servers comes to
  pub record WholeCalls : Type 0 where
    -- what the calls handed back is what the ledger tells, and the table in the end what its fold tells
    pub tells : (i : ℕ) → i < 𝓢.servers → Tells 𝓢.servers i 𝓢.sheet 𝓢.returns 𝓢.least (𝓢.log i)
    -- demand 3 of the pool, and its conditions by what the C calls were handed and wrote: the rounds that returned 0 are those
    -- that the rules do not refuse
    pub whole : WholeRun document01 pool_of
    -- what servers come to that stopped between verdict and entry and go on
    pub resumes : Resumes document01 pool_of
    pub rounds : (i : ℕ) → i < 𝓢.servers
        → over (rounds_in 𝓢.servers) (𝓢.log i).calls
        ≡ handed_in document01 (opened_at document01 pool_of i) empty (map call_of (𝓢.log i).calls)
    pub unaltered : CUnaltered → Unaltered document01 pool_of
    pub unaltered_back : Unaltered document01 pool_of → CUnaltered
    pub conditions : CConditions → Conditions document01 pool_of
    pub conditions_back : Conditions document01 pool_of → CConditions
    -- a server is closed exactly where its pool_close returned 0, and the bytes that it wrote are the closing message
    pub closed_wrote : (i : ℕ) → i < 𝓢.servers → (ledger_at document01 pool_of i).progress ≡ is_closed
        → In (closing_message document01 (opened_at document01 pool_of i) (ledger_at document01 pool_of i))
        (over closings_in (𝓢.log i).calls)
    pub closes : (i : ℕ) → i < 𝓢.servers → (m : List ℕ) → In m (over closings_in (𝓢.log i).calls)
        → ((ledger_at document01 pool_of i).progress ≡ is_closed)
        × (m ≡ closing_message document01 (opened_at document01 pool_of i) (ledger_at document01 pool_of i))
    -- pool_state, on the table that a server's calls left, returns 0 and tells what the ledger tells
    pub states : (i : ℕ) → i < 𝓢.servers → (before : State) (a : ℕ) (after : State) → TellsState (𝓢.log i).last before a after
        → (a ≡ 0) × (after ≡ ledger_tells document01 pool_of i)
    -- pool_join, handed the bytes that pool_close wrote at each server, in server order
    pub joins : CConditions → (m : ℕ → List ℕ) → ((i : ℕ) → i < 𝓢.servers → In (m i) (over closings_in (𝓢.log i).calls))
        → (out : List ℕ) (accepted written a : ℕ) (out' : List ℕ) (accepted' written' : ℕ)
        → Joins 𝓢.servers 𝓢.sheet 𝓢.returns (one_by_one m 𝓢.servers) out accepted written a out' accepted' written'
        → Totals out a out' accepted' written'
    -- and pool_line, handed these bytes and a number that names a column of two numbers
    pub lines : CConditions → (m : ℕ → List ℕ) → ((i : ℕ) → i < 𝓢.servers → In (m i) (over closings_in (𝓢.log i).calls))
        → (column : ℕ) → names_point column (columns document01 pool_of) ≡ true
        → (determinant slope intercept : ℤ) (a : ℕ) (determinant' slope' intercept' : ℤ)
        → TellsLine 𝓢.servers 𝓢.sheet 𝓢.returns (one_by_one m 𝓢.servers) column determinant slope intercept
        a determinant' slope' intercept'
        → LineTold pool_of column determinant slope intercept a determinant' slope' intercept'

-- CLAIM: there are such lists of C calls for everything that can be asked
pub record AskedBy (𝓟 : Pool document01) : Type 0 where
  pub 𝓢 : Servers
  pub servers_are : 𝓢.servers ≡ 𝓟.servers
  pub sheet_is : 𝓢.sheet ≡ 𝓟.sheet
  pub returns_are : 𝓢.returns ≡ 𝓟.returns
  pub least_is : 𝓢.least ≡ 𝓟.least
  pub buffers_are : (i : ℕ) → (𝓢.log i).buffer ≡ 𝓟.buffers i
  pub calls_are : (i : ℕ) → map call_of (𝓢.log i).calls ≡ 𝓟.calls i
