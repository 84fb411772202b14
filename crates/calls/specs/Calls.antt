-- The C functions of a server, called one after another. A call is everything that the function was lent and left; it keeps
-- the promise of its function (pool_server's Calls) and gets the table as the last one left it. pool_state leaves the table as it is,
-- so it is no call of a list: what it tells of the table between two calls is a claim of its own (Servers).
-- Assumes nothing.
use Rattle.std.specs.Prelude.{◌≡◌, cond, List, [], ◌∷◌, map, ℕ, eqb, length, take}
use Rattle.std.proofs.Math.ListN as list
use Rattle.algebra.specs.Lists.{All}
use Rattle.rules.specs.Settings.{document01}
use Rattle.rules.specs.Columns.{columns_of}
use Rattle.rules.specs.Server.{Opened}
use Rattle.rules.specs.Ledger.{Call, share, round_one, round_two, enter, drop, close, Answer, refused, wrote, judged, done}
use Rattle.rules.specs.Ledger.{empty, ledger_answers}
use Rattle.rules.specs.Table.{Lent, opened_table}
use Rattle.rules.specs.Runs.{run_table, table_answers}
use Rattle.rules.specs.Pools.{Bytes, BytesIn}
use Rattle.pool_server.specs.Calls.{Opens, TakesShare, TakesOne, Decides, Enters, Drops, Closes}

-- A call of a C function on a table: the table T in its three parts, the arguments, the buffer and the number behind the pointer
-- as they were; then the number a that it returned, and the table, the buffer and the number behind the pointer as it left them
pub data CCall : Type 0 where
  pool_share : (T : Lent) (m : List ℕ) (r s : ℕ) (out : List ℕ) (written a : ℕ) (T' : Lent) (out' : List ℕ) (written' : ℕ) → CCall
  pool_round_one : (T : Lent) (id : ℕ) (joined out : List ℕ) (written a : ℕ) (T' : Lent) (out' : List ℕ) (written' : ℕ) → CCall
  pool_round_two : (T : Lent) (id : ℕ) (joined : List ℕ) (accepted a : ℕ) (T' : Lent) (accepted' : ℕ) → CCall
  pool_enter : (T : Lent) (id a : ℕ) (T' : Lent) → CCall
  pool_drop : (T : Lent) (id a : ℕ) (T' : Lent) → CCall
  pool_close : (T : Lent) (out : List ℕ) (written a : ℕ) (T' : Lent) (out' : List ℕ) (written' : ℕ) → CCall

-- the promise of its function, which is proved of the code
abbrev pub Kept : CCall → Type 0
Kept (pool_share T m r s out w a T' out' w') = TakesShare T m r s out w a T' out' w'
Kept (pool_round_one T id joined out w a T' out' w') = TakesOne T id joined out w a T' out' w'
Kept (pool_round_two T id joined v a T' v') = Decides T id joined v a T' v'
Kept (pool_enter T id a T') = Enters T id a T'
Kept (pool_drop T id a T') = Drops T id a T'
Kept (pool_close T out w a T' out' w') = Closes T out w a T' out' w'

-- the table that it was lent, and the table that it left
abbrev pub before : CCall → Lent
before (pool_share T m r s out w a T' out' w') = T
before (pool_round_one T id joined out w a T' out' w') = T
before (pool_round_two T id joined v a T' v') = T
before (pool_enter T id a T') = T
before (pool_drop T id a T') = T
before (pool_close T out w a T' out' w') = T

abbrev pub after : CCall → Lent
after (pool_share T m r s out w a T' out' w') = T'
after (pool_round_one T id joined out w a T' out' w') = T'
after (pool_round_two T id joined v a T' v') = T'
after (pool_enter T id a T') = T'
after (pool_drop T id a T') = T'
after (pool_close T out w a T' out' w') = T'

-- what it asked, as the rules' calls say it: by its arguments alone
abbrev pub call_of : CCall → Call
call_of (pool_share T m r s out w a T' out' w') = share m r s (length out)
call_of (pool_round_one T id joined out w a T' out' w') = round_one id joined (length out)
call_of (pool_round_two T id joined v a T' v') = round_two id joined
call_of (pool_enter T id a T') = enter id
call_of (pool_drop T id a T') = drop id
call_of (pool_close T out w a T' out' w') = close (length out)

-- what it handed back, by its results alone: the number that it returned; where that is 0 the first bytes of the buffer, as
-- many as stand behind `written`, or whether 1 stands behind `accepted`
abbrev handed : ℕ → Answer → Answer
handed a answer = cond (eqb a 0) answer (refused a)

abbrev pub answer_of : CCall → Answer
answer_of (pool_share T m r s out w a T' out' w') = handed a (wrote (take w' out'))
answer_of (pool_round_one T id joined out w a T' out' w') = handed a (wrote (take w' out'))
answer_of (pool_round_two T id joined v a T' v') = handed a (judged (eqb v' 1))
answer_of (pool_enter T id a T') = handed a done
answer_of (pool_drop T id a T') = handed a done
answer_of (pool_close T out w a T' out' w') = handed a (wrote (take w' out'))

-- "every lent buffer and the table keep what they held" at a refusal; the bytes past the written length stay
pub record Untouched (T : Lent) (out : List ℕ) (w a : ℕ) (T' : Lent) (out' : List ℕ) (w' : ℕ) : Type 0 where
  pub at_refusal : (a ≡ 0 → ⊥) → (T' ≡ T) × (out' ≡ out) × (w' ≡ w)
  pub past_written : a ≡ 0 → list.drop w' out' ≡ list.drop w' out

abbrev pub LeavesRest : CCall → Type 0
LeavesRest (pool_share T m r s out w a T' out' w') = Untouched T out w a T' out' w'
LeavesRest (pool_round_one T id joined out w a T' out' w') = Untouched T out w a T' out' w'
LeavesRest (pool_round_two T id joined v a T' v') = (a ≡ 0 → ⊥) → (T' ≡ T) × (v' ≡ v)
LeavesRest (pool_enter T id a T') = (a ≡ 0 → ⊥) → T' ≡ T
LeavesRest (pool_drop T id a T') = (a ≡ 0 → ⊥) → T' ≡ T
LeavesRest (pool_close T out w a T' out' w') = Untouched T out w a T' out' w'

-- "A list starts from the table that opening gave. Each call gets the table as the last one left it." `last` is what the
-- last call left. Each keeps its promise
pub data Linked : (T : Lent) → List CCall → (last : Lent) → Type 0 where
  none : {T : Lent} → Linked T [] T
  next : {T last : Lent} {c : CCall} {cs : List CCall} → before c ≡ T → Kept c → Linked (after c) cs last
      → Linked T (c ∷ cs) last

-- A server's log: pool_open with its buffer and the number behind `written`, before and after; the calls on the table; the
-- table in the end
pub record Log : Type 0 where
  pub buffer : Lent
  pub written : ℕ
  pub opened : Lent
  pub written' : ℕ
  pub calls : List CCall
  pub last : Lent

-- pool_open returned 0, and the calls follow it; what was lent are bytes
pub record Serves (servers own : ℕ) (sheet : List ℕ) (returns least : ℕ) (log : Log) : Type 0 where
  pub opens : Opens servers own sheet returns least log.buffer log.written 0 log.opened log.written'
  pub linked : Linked log.opened log.calls log.last
  pub buffer_bytes : Bytes log.buffer.bytes
  pub call_bytes : All BytesIn (map call_of log.calls)

abbrev pub opened_with : ℕ → ℕ → List ℕ → ℕ → ℕ → Opened
opened_with servers own sheet returns least =
    record { servers = servers; own = own; columns = columns_of sheet; returns = returns; least = least }

-- CLAIM: what the calls handed back is what the ledger tells of what they asked, and what folding the table tells
pub record Tells (servers own : ℕ) (sheet : List ℕ) (returns least : ℕ) (log : Log) : Type 0 where
  pub by_ledger : map answer_of log.calls
      ≡ ledger_answers document01 (opened_with servers own sheet returns least) empty (map call_of log.calls)
  pub by_table : map answer_of log.calls ≡ table_answers document01 log.opened (map call_of log.calls)
  pub opened_is : log.opened ≡ opened_table document01 servers own sheet returns least log.buffer
  pub last_is : log.last ≡ run_table document01 log.opened (map call_of log.calls)
  pub rest : All LeavesRest log.calls
