-- DEMAND 3 of the C functions: what every list of C calls at S servers comes to. The calls hand back what the ledger tells,
-- so what is proved of the pool is proved of them; joining is handed the closing messages, and its promise says the rest.
-- Assumes the promises of the calls.
use mathlib.Core.Path.{◌≡◌, refl, sym, ap, ◌∙◌, subst}
use mathlib.Core.List.{List, map, flatten}
use Prim.Native.Nat.{ℕ, ◌*◌, ◌<◌}
use native.Mathlib.Omega.{arith}
use lib.ListN.{length, take}
use Rattle.algebra.specs.Lists.{In, count_from}
use Rattle.algebra.proofs.Members.{map_same, in_count}
use Rattle.algebra.proofs.Tables.{length_tabulate}
use Rattle.words.specs.Bytes.{bytes_of_all}
use Rattle.words.proofs.Elements.{length_bytes_all}
use Rattle.rules.specs.Settings.{document01}
use Rattle.rules.specs.Columns.{published_in, columns_of}
use Rattle.rules.specs.Messages.{server_in, one_by_one}
use Rattle.rules.specs.Joining.{join_refusal, join_count, join_totals, join_bytes}
use Rattle.rules.specs.Ledger.{Answer, wrote, is_closed, closing_message, empty}
use Rattle.rules.specs.Table.{Lent}
use Rattle.rules.specs.Runs.{run_table}
use Rattle.rules.specs.Pools.{handed_in, opened_at, table_at, ledger_at, Unaltered, Conditions}
use Rattle.rules.specs.State.{State, state_refusal, state_of, ledger_tells}
use Rattle.rules.specs.WholeRun.{Closed, closings}
use Rattle.rules.proofs.Histories.Origins.{handed_named}
use Rattle.rules.proofs.Runs.Agreement.{history_at}
use Rattle.rules.proofs.Computed.Facts.{document01_facts}
use Rattle.rules.proofs.Tables.Told.{document01_state_told}
use Rattle.rules.proofs.Runs.WholeRuns.{document01_whole_run}
use Rattle.rules.proofs.Runs.Resuming.{resumes}
use Rattle.pool_server.specs.Calls.{TellsState}
use Rattle.pool_totals.specs.Calls.{Joins}
use Rattle.calls.specs.Calls.{call_of, Tells}
use Rattle.calls.specs.Servers.{Servers, over, rounds_in, closings_in, pool_of, CUnaltered, CConditions, Totals, WholeCalls}
use Rattle.calls.proofs.Writing.{reads, number_done}
use Rattle.calls.proofs.ManyCalls.{calls_tell}
use Rattle.calls.proofs.Handing.{closed_in, rounds_same, closings_same, closed_wrote}
use Rattle.calls.proofs.Lines.{line_told}

join_long : (servers : ℕ) (sheet joined : List ℕ)
    → length (join_bytes document01 servers sheet joined) ≡ 4 * published_in (columns_of sheet)
unfolding join_bytes join_totals
join_long servers sheet joined =
    length_bytes_all 4 (join_totals document01 servers sheet joined)
    ∙ ap (λ (k : ℕ). 4 * k) (length_tabulate _ (published_in (columns_of sheet)))

module _ (𝓢 : Servers) where
  told : (i : ℕ) → i < 𝓢.servers → Tells 𝓢.servers i 𝓢.sheet 𝓢.returns 𝓢.least (𝓢.log i)
  told i h = calls_tell 𝓢.servers i 𝓢.sheet 𝓢.returns 𝓢.least (𝓢.log i) (𝓢.serves i h)

  closes : (i : ℕ) → i < 𝓢.servers → (m : List ℕ) → In m (over closings_in (𝓢.log i).calls)
      → ((ledger_at document01 (pool_of 𝓢) i).progress ≡ is_closed)
      × (m ≡ closing_message document01 (opened_at document01 (pool_of 𝓢) i) (ledger_at document01 (pool_of 𝓢) i))
  closes i h m k = closings_same (opened_at document01 (pool_of 𝓢) i) empty (𝓢.log i).calls (told i h).by_ledger m k

  rounds : (i : ℕ) → i < 𝓢.servers → over (rounds_in 𝓢.servers) (𝓢.log i).calls
      ≡ handed_in document01 (opened_at document01 (pool_of 𝓢) i) empty (map call_of (𝓢.log i).calls)
  rounds i h = rounds_same (opened_at document01 (pool_of 𝓢) i) empty (𝓢.log i).calls (told i h).by_ledger

  -- the table that the calls left is that of the rules' fold
  left : (i : ℕ) → i < 𝓢.servers → (𝓢.log i).last ≡ run_table document01 (table_at document01 (pool_of 𝓢) i) (map call_of (𝓢.log i).calls)
  left i h = (told i h).last_is ∙ ap (λ (T : Lent). run_table document01 T (map call_of (𝓢.log i).calls)) (told i h).opened_is

  states : (i : ℕ) → i < 𝓢.servers → (before : State) (a : ℕ) (after : State) → TellsState (𝓢.log i).last before a after
      → (a ≡ 0) × (after ≡ ledger_tells document01 (pool_of 𝓢) i)
  states i h before a after t =
      let s = document01_state_told (pool_of 𝓢) i h in
      let none : state_refusal document01 (𝓢.log i).last ≡ 0 = ap (state_refusal document01) (left i h) ∙ s.not_refused in
      (t.answer_is ∙ none, t.numbers_are ∙ rw none (ap (state_of document01) (left i h) ∙ s.told))

  -- messages that are not refused name servers that there are
  named : (i : ℕ) → i < 𝓢.servers → (m : List ℕ)
      → In m (handed_in document01 (opened_at document01 (pool_of 𝓢) i) empty (map call_of (𝓢.log i).calls)) → server_in m < 𝓢.servers
  named i h = handed_named document01 (opened_at document01 (pool_of 𝓢) i) (history_at document01 (pool_of 𝓢) i h)

  unaltered : CUnaltered 𝓢 → Unaltered document01 (pool_of 𝓢)
  unaltered u i h m q =
      subst (λ (xs : List Answer). In (wrote m) xs) (told (server_in m) (named i h m q)).by_ledger
      (u i h m (subst (λ (xs : List (List ℕ)). In m xs) (sym (rounds i h)) q))

  unaltered_back : Unaltered document01 (pool_of 𝓢) → CUnaltered 𝓢
  unaltered_back u i h m q =
      let handed = subst (λ (xs : List (List ℕ)). In m xs) (rounds i h) q in
      subst (λ (xs : List Answer). In (wrote m) xs) (sym (told (server_in m) (named i h m handed)).by_ledger) (u i h m handed)

  conditions : CConditions 𝓢 → Conditions document01 (pool_of 𝓢)
  conditions 𝓒 = record { unaltered = unaltered 𝓒.unaltered; same_drops = 𝓒.same_drops }

  conditions_back : Conditions document01 (pool_of 𝓢) → CConditions 𝓢
  conditions_back 𝓒 = record { unaltered = unaltered_back 𝓒.unaltered; same_drops = 𝓒.same_drops }

  module _ (𝓒 : CConditions 𝓢) (m : ℕ → List ℕ)
      (written_by : (i : ℕ) → i < 𝓢.servers → In (m i) (over closings_in (𝓢.log i).calls)) where
    joined_are : one_by_one m 𝓢.servers ≡ closings document01 (pool_of 𝓢)
    joined_are =
        ap flatten (map_same m _ (count_from 0 𝓢.servers) (λ i k. (
        let q = in_count 0 𝓢.servers i k in
        let l : i < 𝓢.servers = omega arith in
        (closes i l (m i) (written_by i l)).1)))

    closed : Closed document01 (pool_of 𝓢)
    closed = (document01_whole_run (pool_of 𝓢)).closed (conditions 𝓒) (λ i h. (closes i h (m i) (written_by i h)).0)

    joins : (out : List ℕ) (accepted written a : ℕ) (out' : List ℕ) (accepted' written' : ℕ)
        → Joins 𝓢.servers 𝓢.sheet 𝓢.returns (one_by_one m 𝓢.servers) out accepted written a out' accepted' written'
        → Totals 𝓢 out a out' accepted' written'
    unfolding join_bytes
    joins out accepted written a out' accepted' written' j =
        let S = 𝓢.servers in
        let joined = one_by_one m S in
        let f : ℕ = join_refusal document01 S 𝓢.sheet 𝓢.returns joined (length out) in
        let none : a ≡ 0 → f ≡ 0 = λ z. sym j.totals.answer_is ∙ z in
        let bytes : a ≡ 0 → take written' out' ≡ bytes_of_all 4 (join_totals document01 S 𝓢.sheet (closings document01 (pool_of 𝓢))) =
        λ z. reads f (join_bytes document01 S 𝓢.sheet joined) _ out written a out' written' j.totals
        (λ q. join_long S 𝓢.sheet joined) (none z)
        ∙ ap (λ (x : List ℕ). bytes_of_all 4 (join_totals document01 S 𝓢.sheet x)) joined_are in
        record {
          ids = closed.ids;
          distinct = closed.distinct;
          same_ids = closed.same_ids;
          number =
              j.totals.answer_is
              ∙ ap (λ (x : List ℕ). join_refusal document01 S 𝓢.sheet 𝓢.returns x (length out)) joined_are
              ∙ closed.joins (length out);
          count = λ z. number_done f _ accepted accepted' j.accepted_is (none z) ∙ ap join_count joined_are ∙ closed.count;
          enough = λ z. rw (number_done f _ accepted accepted' j.accepted_is (none z), joined_are) closed.enough;
          totals = λ z. bytes z ∙ ap (bytes_of_all 4) closed.totals;
          whole = λ k z. bytes z ∙ ap (bytes_of_all 4) (closed.whole k);
        }

  pub whole_calls : WholeCalls 𝓢
  whole_calls = record {
    tells = told;
    whole = document01_whole_run (pool_of 𝓢);
    resumes = resumes document01 document01_facts (pool_of 𝓢);
    rounds = rounds;
    unaltered = unaltered;
    unaltered_back = unaltered_back;
    conditions = conditions;
    conditions_back = conditions_back;
    closed_wrote = λ i h e. closed_wrote (opened_at document01 (pool_of 𝓢) i) empty (𝓢.log i).calls (told i h).by_ledger refl
        (ap closed_in e);
    closes = closes;
    states = states;
    joins = joins;
    lines = λ 𝓒 m w. line_told (pool_of 𝓢) (one_by_one m 𝓢.servers) (joined_are 𝓒 m w) (closed 𝓒 m w);
  }
