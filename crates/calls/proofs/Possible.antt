-- Whatever a pool of the rules asks, C calls can ask: each promise is an equation for what the function leaves, so there are
-- calls that keep it, one on the table of the other. Assumes nothing.
use mathlib.Core.Path.{◌≡◌, refl, sym, ap, ap₂, subst}
use mathlib.Core.Bool.{cond}
use mathlib.Core.List.{List, [], ◌∷◌, map}
use Prim.Native.Nat.{ℕ, ◌<◌}
use lib.ListN.{length, replicate, length-replicate}
use Rattle.algebra.specs.Lists.{All}
use Rattle.words.specs.Bytes.{splice}
use Rattle.records.specs.Answers.{only_if, if_done}
use Rattle.rules.specs.Settings.{document01}
use Rattle.rules.specs.Messages.{round_length}
use Rattle.rules.specs.Server.{totals_length}
use Rattle.waiting.specs.Changes.{unless_refused}
use Rattle.rules.specs.Table.{Lent, opened_table, open_length, opened_in, share_refused, share_table, share_bytes, one_refused, one_table, one_bytes}
use Rattle.rules.specs.Table.{two_refused, two_table, two_verdict, enter_refused, enter_table, drop_refused, drop_table}
use Rattle.rules.specs.Table.{close_refused, close_table, close_bytes}
use Rattle.rules.specs.Ledger.{Call, share, round_one, round_two, enter, drop, close}
use Rattle.rules.specs.Pools.{Pool, BytesIn}
use Rattle.calls.specs.Calls.{CCall, pool_share, pool_round_one, pool_round_two, pool_enter, pool_drop, pool_close, Kept}
use Rattle.calls.specs.Calls.{before, after, call_of, Linked, none, next, Log, Serves}
use Rattle.calls.specs.Servers.{Servers, AskedBy}

-- a buffer of so many bytes
buffer : ℕ → List ℕ
buffer room = replicate room 0

-- what it holds, and what stands behind `written`, after a call
wrote_in : ℕ → List ℕ → List ℕ → List ℕ
wrote_in f bytes out = only_if f (splice out 0 bytes) out

-- a call that asks c on the table T
made : Lent → Call → CCall
made T (share m r s room) =
    let out = buffer room in
    let f = share_refused document01 T m r s (length out) in
    pool_share T m r s out 0 f (unless_refused f (share_table document01 T m r s) T) (wrote_in f (share_bytes document01 T m r s) out)
    (if_done f (round_length document01 34) 0)
made T (round_one id joined room) =
    let out = buffer room in
    let f = one_refused document01 T id joined (length out) in
    pool_round_one T id joined out 0 f (unless_refused f (one_table document01 T id joined) T)
    (wrote_in f (one_bytes document01 T id joined) out)
    (if_done f (round_length document01 35) 0)
made T (round_two id joined) =
    let f = two_refused document01 T id joined in
    pool_round_two T id joined 0 f (unless_refused f (two_table document01 T id joined) T)
    (if_done f (cond (two_verdict document01 T joined) 1 0) 0)
made T (enter id) =
    pool_enter T id (enter_refused document01 T id) (unless_refused (enter_refused document01 T id) (enter_table document01 T id) T)
made T (drop id) =
    pool_drop T id (drop_refused document01 T id) (unless_refused (drop_refused document01 T id) (drop_table document01 T id) T)
made T (close room) =
    let out = buffer room in
    let f = close_refused document01 T (length out) in
    pool_close T out 0 f (unless_refused f (close_table document01 T) T) (wrote_in f (close_bytes document01 T) out)
    (if_done f (totals_length document01 (opened_in document01 T.bytes)) 0)

made_on : (T : Lent) (c : Call) → before (made T c) ≡ T
unfolding made
made_on T (share m r s room) = refl
made_on T (round_one id joined room) = refl
made_on T (round_two id joined) = refl
made_on T (enter id) = refl
made_on T (drop id) = refl
made_on T (close room) = refl

made_kept : (T : Lent) (c : Call) → Kept (made T c)
unfolding made wrote_in
made_kept T (share m r s room) = (refl, record { answer_is = refl; out_is = refl; written_is = refl })
made_kept T (round_one id joined room) = (refl, record { answer_is = refl; out_is = refl; written_is = refl })
made_kept T (round_two id joined) = record { answer_is = refl; table_is = refl; accepted_is = refl }
made_kept T (enter id) = record { answer_is = refl; table_is = refl }
made_kept T (drop id) = record { answer_is = refl; table_is = refl }
made_kept T (close room) = (refl, record { answer_is = refl; out_is = refl; written_is = refl })

made_asks : (T : Lent) (c : Call) → call_of (made T c) ≡ c
unfolding made buffer
made_asks T (share m r s room) = ap (share m r s) (length-replicate room 0)
made_asks T (round_one id joined room) = ap (round_one id joined) (length-replicate room 0)
made_asks T (round_two id joined) = refl
made_asks T (enter id) = refl
made_asks T (drop id) = refl
made_asks T (close room) = ap close (length-replicate room 0)

-- a list of them
all_made : Lent → List Call → List CCall
all_made T [] = []
all_made T (c ∷ cs) = made T c ∷ all_made (after (made T c)) cs

end : Lent → List Call → Lent
end T [] = T
end T (c ∷ cs) = end (after (made T c)) cs

all_linked : (T : Lent) (cs : List Call) → Linked T (all_made T cs) (end T cs)
unfolding all_made end
all_linked T [] = none
all_linked T (c ∷ cs) = next (made_on T c) (made_kept T c) (all_linked (after (made T c)) cs)

all_asked : (T : Lent) (cs : List Call) → map call_of (all_made T cs) ≡ cs
unfolding all_made
all_asked T [] = refl
all_asked T (c ∷ cs) = ap₂ (λ (x : Call) (y : List Call). x ∷ y) (made_asks T c) (all_asked (after (made T c)) cs)

module _ (𝓟 : Pool document01) where
  abbrev table : ℕ → Lent
  table i = opened_table document01 𝓟.servers i 𝓟.sheet 𝓟.returns 𝓟.least (𝓟.buffers i)

  abbrev log : ℕ → Log
  log i = record {
    buffer = 𝓟.buffers i;
    written = 0;
    opened = table i;
    written' = open_length document01 𝓟.sheet 𝓟.returns;
    calls = all_made (table i) (𝓟.calls i);
    last = end (table i) (𝓟.calls i);
  }

  served : (i : ℕ) → i < 𝓟.servers → Serves 𝓟.servers i 𝓟.sheet 𝓟.returns 𝓟.least (log i)
  unfolding unless_refused if_done
  served i h = record {
    opens = record { answer_is = sym (𝓟.opens i h); table_is = rw (𝓟.opens i h) refl; written_is = rw (𝓟.opens i h) refl };
    linked = all_linked (table i) (𝓟.calls i);
    buffer_bytes = 𝓟.buffer_bytes i h;
    call_bytes = subst (λ (cs : List Call). All BytesIn cs) (sym (all_asked (table i) (𝓟.calls i))) (𝓟.call_bytes i h);
  }

  abbrev servers : Servers
  servers = record {
    servers = 𝓟.servers;
    sheet = 𝓟.sheet;
    returns = 𝓟.returns;
    least = 𝓟.least;
    log = log;
    some_server = 𝓟.some_server;
    sheet_bytes = 𝓟.sheet_bytes;
    serves = served;
  }

  pub asked_by : AskedBy 𝓟
  asked_by = record {
    𝓢 = servers;
    servers_are = refl;
    sheet_is = refl;
    returns_are = refl;
    least_is = refl;
    buffers_are = λ i. refl;
    calls_are = λ i. all_asked (table i) (𝓟.calls i);
  }
