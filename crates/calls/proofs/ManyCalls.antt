-- A list of C calls, each on the table that the last one left: its answers are those of the rules' fold over the table, and
-- so, from a table that pool_open left, those of the ledger. By induction on the list; each call is one step of the fold.
-- Assumes the promises of the calls.
use mathlib.Core.Path.{◌≡◌, refl, sym, ap, ap₂, ◌∙◌}
use mathlib.Core.List.{List, ◌∷◌, map}
use Prim.Native.Nat.{ℕ}
use lib.ListN.{length}
use Rattle.algebra.specs.Lists.{All, all[], all∷}
use Rattle.rules.specs.Settings.{document01}
use Rattle.rules.specs.Ledger.{Answer, empty, ledger_answers}
use Rattle.rules.specs.Table.{Lent, opened_table}
use Rattle.rules.specs.Runs.{run_table, table_answers}
use Rattle.rules.proofs.Computed.Facts.{document01_facts}
use Rattle.rules.proofs.Circuits.Refusals.{sheet_limits_lem}
use Rattle.rules.proofs.Tables.Run.{answers_same}
use Rattle.rules.proofs.Histories.Opening.{opening}
use Rattle.rules.proofs.Tables.Opens.{open_facts, opened_beside}
use Rattle.waiting.specs.Changes.{unless_refused}
use Rattle.calls.specs.Calls.{CCall, call_of, answer_of, LeavesRest, Linked, none, next, Log, Serves, opened_with, Tells}
use Rattle.calls.proofs.OneCall.{steps}

answers_by_table : {T last : Lent} {cs : List CCall} → Linked T cs last
    → map answer_of cs ≡ table_answers document01 T (map call_of cs)
unfolding table_answers
answers_by_table none = refl
answers_by_table {T = T} {last = last} {cs = c ∷ cs} (next t k l) =
    let s = steps c k in
    ap₂ (λ (a : Answer) (r : List Answer). a ∷ r) s.says
    (answers_by_table l ∙ ap (λ (x : Lent). table_answers document01 x (map call_of cs)) s.leaves)
    ∙ ap (λ (x : Lent). table_answers document01 x (call_of c ∷ map call_of cs)) t

last_by_table : {T last : Lent} {cs : List CCall} → Linked T cs last → last ≡ run_table document01 T (map call_of cs)
unfolding run_table
last_by_table none = refl
last_by_table {T = T} {last = last} {cs = c ∷ cs} (next t k l) =
    last_by_table l
    ∙ ap (λ (x : Lent). run_table document01 x (map call_of cs)) (steps c k).leaves
    ∙ ap (λ (x : Lent). run_table document01 x (call_of c ∷ map call_of cs)) t

rest_left : {T last : Lent} {cs : List CCall} → Linked T cs last → All LeavesRest cs
rest_left none = all[]
rest_left {cs = c ∷ cs} (next t k l) = all∷ (steps c k).rest (rest_left l)

module _ (servers own : ℕ) (sheet : List ℕ) (returns least : ℕ) (log : Log) (s : Serves servers own sheet returns least log) where
  opened_is : log.opened ≡ opened_table document01 servers own sheet returns least log.buffer
  unfolding unless_refused
  opened_is = s.opens.table_is ∙ rw (← s.opens.answer_is) refl

  by_ledger : table_answers document01 log.opened (map call_of log.calls)
      ≡ ledger_answers document01 (opened_with servers own sheet returns least) empty (map call_of log.calls)
  by_ledger =
      let opens = sym s.opens.answer_is in
      let B : Lent = log.buffer in
      let known = opening document01 servers own sheet returns least (length B.bytes) (length B.slots) (length B.elements) opens in
      let many = (sheet_limits_lem sheet known.no_fault_lem).published_count in
      ap (λ (x : Lent). table_answers document01 x (map call_of log.calls)) opened_is
      ∙ answers_same document01 document01_facts (opened_with servers own sheet returns least) sheet
      (open_facts document01 document01_facts servers own sheet returns least log.buffer opens) many
      (map call_of log.calls) _ empty (opened_beside document01 document01_facts servers own sheet returns least log.buffer opens)
      s.call_bytes

  pub calls_tell : Tells servers own sheet returns least log
  calls_tell = record {
    by_ledger = answers_by_table s.linked ∙ by_ledger;
    by_table = answers_by_table s.linked;
    opened_is = opened_is;
    last_is = last_by_table s.linked;
    rest = rest_left s.linked;
  }
