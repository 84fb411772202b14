-- The C functions of a server, on its table of three parts: the bytes, the records of the returns that wait, and the numbers of
-- their shares. Each promise is an equality with rules' definitions at document 01's setting: the answer, each byte, record and
-- number of the table, every byte of the buffer and every number behind a pointer.
-- Assumes nothing.
use Rattle.std.specs.Prelude.{◌≡◌, cond, List, ℕ, eqb, length}
use Rattle.records.specs.Answers.{Writes, if_done}
use Rattle.rules.specs.Settings.{document01}
use Rattle.rules.specs.Messages.{round_length}
use Rattle.rules.specs.Server.{totals_length}
use Rattle.rules.specs.Table.{Lent, open_length, opened_table, share_refused, share_table, share_bytes}
use Rattle.rules.specs.Table.{one_refused, one_table, one_bytes, two_refused, two_verdict, two_table, enter_refused, enter_table}
use Rattle.rules.specs.Table.{drop_refused, drop_table, close_refused, close_table, close_bytes, opened_in}
use Rattle.rules.specs.State.{State, state_refusal, state_of}
use Rattle.rules.specs.Pools.{opens_in}
use Rattle.waiting.specs.Changes.{unless_refused}

-- a call on the table T, which is `new` afterwards unless the call is refused
abbrev pub Leaves : ℕ → Lent → Lent → Lent → Type 0
Leaves refusal new T T' = T' ≡ unless_refused refusal new T

-- pool_open: the table is what is lent
pub record Opens (servers own : ℕ) (sheet : List ℕ) (returns least : ℕ) (T : Lent) (written a : ℕ) (T' : Lent) (written' : ℕ) : Type 0 where
  pub answer_is : a ≡ opens_in document01 servers own sheet returns least T
  pub table_is :
      Leaves (opens_in document01 servers own sheet returns least T) (opened_table document01 servers own sheet returns least T) T T'
  pub written_is : written' ≡ if_done (opens_in document01 servers own sheet returns least T) (open_length document01 sheet returns) written

-- pool_share
abbrev pub TakesShare : Lent → List ℕ → ℕ → ℕ → List ℕ → ℕ → ℕ → Lent → List ℕ → ℕ → Type 0
TakesShare T m r s out written a T' out' written' =
    let refusal = share_refused document01 T m r s (length out) in
    Leaves refusal (share_table document01 T m r s) T T'
    × Writes refusal (share_bytes document01 T m r s) (round_length document01 34) out written a out' written'

-- pool_round_one
abbrev pub TakesOne : Lent → ℕ → List ℕ → List ℕ → ℕ → ℕ → Lent → List ℕ → ℕ → Type 0
TakesOne T id joined out written a T' out' written' =
    let refusal = one_refused document01 T id joined (length out) in
    Leaves refusal (one_table document01 T id joined) T T'
    × Writes refusal (one_bytes document01 T id joined) (round_length document01 35) out written a out' written'

-- pool_round_two: the verdict is 1 or 0
pub record Decides (T : Lent) (id : ℕ) (joined : List ℕ) (accepted a : ℕ) (T' : Lent) (accepted' : ℕ) : Type 0 where
  pub answer_is : a ≡ two_refused document01 T id joined
  pub table_is : Leaves (two_refused document01 T id joined) (two_table document01 T id joined) T T'
  pub accepted_is : accepted' ≡ if_done (two_refused document01 T id joined) (cond (two_verdict document01 T joined) 1 0) accepted

-- pool_enter
pub record Enters (T : Lent) (id a : ℕ) (T' : Lent) : Type 0 where
  pub answer_is : a ≡ enter_refused document01 T id
  pub table_is : Leaves (enter_refused document01 T id) (enter_table document01 T id) T T'

-- pool_drop
pub record Drops (T : Lent) (id a : ℕ) (T' : Lent) : Type 0 where
  pub answer_is : a ≡ drop_refused document01 T id
  pub table_is : Leaves (drop_refused document01 T id) (drop_table document01 T id) T T'

-- pool_close
abbrev pub Closes : Lent → List ℕ → ℕ → ℕ → Lent → List ℕ → ℕ → Type 0
Closes T out written a T' out' written' =
    let refusal = close_refused document01 T (length out) in
    Leaves refusal (close_table document01 T) T T'
    × Writes refusal (close_bytes document01 T) (totals_length document01 (opened_in document01 T.bytes)) out written a out' written'

-- pool_state: the eight numbers behind the pointers, before and after. All three parts of the table are only read, so a list of calls
-- with pool_state in it comes to what the others come to
pub record TellsState (T : Lent) (before : State) (a : ℕ) (after : State) : Type 0 where
  pub answer_is : a ≡ state_refusal document01 T
  pub numbers_are : after ≡ cond (eqb (state_refusal document01 T) 0) (state_of document01 T) before
