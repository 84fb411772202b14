-- DEMAND 3: what every list of calls at S servers comes to. Each field is a theorem of its own file. Assumes nothing.
use mathlib.Core.Path.{◌≡◌, ◌∙◌}
use Prim.Native.Nat.{ℕ, ◌<◌}
use Rattle.rules.specs.Settings.{Setting, Facts, document01}
use Rattle.rules.specs.Ledger.{empty}
use Rattle.rules.specs.Runs.{table_answers}
use Rattle.rules.specs.Mixing.{calls_on, answers_on}
use Rattle.rules.specs.Pools.{Pool, columns, opened_at, table_at}
use Rattle.rules.specs.WholeRun.{WholeRun}
use Rattle.rules.proofs.Computed.Facts.{document01_facts}
use Rattle.rules.proofs.Returns.OnSheets.{sheet_few_pairs}
use Rattle.rules.proofs.Tables.Opens.{tables_tell, tables_answer}
use Rattle.rules.proofs.Tables.Erased.{counted, summed_up_lem, unused_zero, records_hold, erased_zero}
use Rattle.rules.proofs.Histories.ShareMessages.{elements_sound, seed_sound_lem}
use Rattle.rules.proofs.Histories.PoolOpened.{is_read}
use Rattle.rules.proofs.Runs.WholeTotals.{closed_together}
use Rattle.rules.proofs.Runs.OneChallenge.{unequal}
use Rattle.rules.proofs.Runs.Verdicts.{verdict, honest}
use Rattle.rules.proofs.Runs.VerdictFirst.{verdict_first_lem}
use Rattle.rules.proofs.Runs.Handled.{handled, handled_mixed, handled_entered}
use Rattle.rules.proofs.Runs.Mixed.{mixing, bytes_on}
use Rattle.rules.proofs.Runs.WithinLimits.{within_returns, at_most_eight, once}
use Rattle.rules.proofs.Runs.Enough.{closed_enough, totals_enough, close_done, refused_15, shut}

-- 9, on the table
alone : (σ : Setting) → Facts σ → (𝓟 : Pool σ) → (i : ℕ) → i < 𝓟.servers → (id : ℕ)
    → table_answers σ (table_at σ 𝓟 i) (calls_on σ (opened_at σ 𝓟 i) id empty (𝓟.calls i))
    ≡ answers_on σ (opened_at σ 𝓟 i) id empty (𝓟.calls i)
alone σ facts 𝓟 i l id =
    let o = opened_at σ 𝓟 i in
    tables_answer σ facts 𝓟 i l (calls_on σ o id empty (𝓟.calls i)) (bytes_on σ o id empty (𝓟.calls i) (𝓟.call_bytes i l))
    ∙ (mixing σ o id (𝓟.calls i)).answers

pub whole_run : (σ : Setting) → Facts σ → (𝓟 : Pool σ) → WholeRun σ 𝓟
whole_run σ facts 𝓟 = record {
  tables = tables_tell σ facts 𝓟;
  closed = closed_together σ facts 𝓟;
  verdict = verdict σ facts 𝓟;
  honest = honest σ facts 𝓟;
  few = sheet_few_pairs σ facts 𝓟.sheet (columns σ 𝓟) (is_read σ 𝓟) 𝓟.servers 𝓟.some_server;
  sound_elements = elements_sound σ facts (columns σ 𝓟);
  sound_seed = seed_sound_lem σ facts (columns σ 𝓟);
  handled = λ id messages shares r s room rounds ready i l ones twos p q.
      handled σ facts 𝓟 id messages shares r s room rounds ready ones twos p q i l;
  handled_mixed = λ id messages shares r s room rounds ready i l ones twos p q.
      handled_mixed σ facts 𝓟 id messages shares r s room rounds ready ones twos p q i l;
  handled_entered = λ id messages shares r s room rounds ready lets i l ones twos p q.
      handled_entered σ facts 𝓟 id messages shares r s room rounds ready ones twos p q i l lets;
  mixing = λ i l id. mixing σ (opened_at σ 𝓟 i) id (𝓟.calls i);
  alone = alone σ facts 𝓟;
  within_returns = within_returns σ 𝓟;
  at_most_eight = at_most_eight σ 𝓟;
  once = once σ 𝓟;
  counted = counted σ facts 𝓟;
  summed_up_lem = summed_up_lem σ facts 𝓟;
  holds = records_hold σ facts 𝓟;
  unused = unused_zero σ facts 𝓟;
  erased = erased_zero σ facts 𝓟;
  closed_enough = closed_enough σ 𝓟;
  totals_enough = λ i l. totals_enough σ 𝓟 i l facts;
  closes = close_done σ 𝓟;
  too_few = refused_15 σ 𝓟;
  stays_shut = shut σ 𝓟;
  unequal = λ u. unequal σ 𝓟 facts u;
  verdict_first_lem = verdict_first_lem σ 𝓟;
}

-- at the setting of document 01
pub document01_whole_run : (𝓟 : Pool document01) → WholeRun document01 𝓟
document01_whole_run = whole_run document01 document01_facts
