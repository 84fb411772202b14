-- What is told, by what the reader of the table finds: its refusal, or the numbers of a sound table, which are rules'.
-- Assumes nothing.
use mathlib.Core.Path.{◌≡◌, refl, sym, ◌∙◌}
use mathlib.Core.Bool.{Bool, true, false, not, cond}
use Prim.Native.Nat.{ℕ}
use native.Mathlib.Omega.{arith}
use lib.Dec.{eqb}
use mir.Val.{bool_byte}
use Rattle.std.specs.Prelude.{Result, Ok, Err}
use Rattle.records.specs.Outcome.{refused}
use Rattle.records.specs.Refusals.{number_of, outcome_of}
use Rattle.records.specs.declared.Refusal.{Refusal}
use Rattle.rules.specs.Settings.{document01}
use Rattle.rules.specs.Server.{takes, closed}
use Rattle.rules.specs.WaitingList.{waiting_count, waits_in}
use Rattle.rules.specs.Table.{Lent, stage_byte, servers_in, own_in, returns_in, decided_in, entered_in, least_in, stage_open, columns_at, stage_in}
use Rattle.rules.specs.State.{state_refusal, closed_number, state_of}
use Rattle.layout.specs.Numbers.{table_of}
use Rattle.layout.specs.declared.Table.{Table}
use Rattle.table.specs.Reading.{found_in, Sound}
use Rattle.table.proofs.Answers.{unsound, not_refused}
use Rattle.state.specs.Calls.{eight, Tells}
use Rattle.state.specs.declared.State.{State}

module _ (T : Lent) where
  pub told_unsound : (n : ℕ) → found_in T ≡ refused n → (r : Result State Refusal) → outcome_of r ≡ refused n → Tells T r
  unfolding state_refusal
  told_unsound n e (Err f) o = let q : number_of f ≡ n = cc in record { answer_is = q ∙ sym (unsound T n e).0; numbers_are = tt }
  told_unsound n e (Ok x) o = let w : ◌≡◌ {A = ℕ} 0 1 = cc in absurd (omega arith)

  closed_is : closed_number (stage_in document01 T) ≡ bool_byte (table_of T.bytes).closed
  unfolding closed_number stage_in table_of
  closed_is = by (eqb (stage_byte document01 T.bytes) stage_open)
    where
      by : (b : Bool)
          → closed_number (cond b (takes (waits_in (columns_at document01 T) T.slots T.elements)) closed) ≡ bool_byte (not b)
      by true = refl
      by false = refl

  numbers_of_lem : (c : ℕ) → c ≡ bool_byte (table_of T.bytes).closed → (w : ℕ) → w ≡ waiting_count T.slots
      → eight (table_of T.bytes).servers (table_of T.bytes).own (table_of T.bytes).returns (table_of T.bytes).least c
      (table_of T.bytes).decided (table_of T.bytes).entered w
      ≡ state_of document01 T
  unfolding state_of table_of
  numbers_of_lem c e w f = λ i. record {
    servers = servers_in document01 T.bytes;
    own = own_in document01 T.bytes;
    returns = returns_in document01 T.bytes;
    least = least_in document01 T.bytes;
    closed = (e ∙ sym closed_is) i;
    decided = decided_in document01 T.bytes;
    entered = entered_in document01 T.bytes;
    waiting = f i;
  }

  pub told_sound : (k : Table) → Sound T k → (c : ℕ) → c ≡ bool_byte k.closed → (w : ℕ) → w ≡ waiting_count T.slots
      → Tells T (Ok (
      record {
        servers = k.servers;
        own = k.own;
        returns = k.returns;
        least = k.least;
        closed = c;
        decided = k.decided;
        entered = k.entered;
        waiting = w;
      }
      ))
  unfolding state_refusal
  told_sound k s = rw s.says (λ c e w f. record { answer_is = sym (not_refused T k s); numbers_are = numbers_of_lem c e w f })
