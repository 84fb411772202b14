-- What is promised of returns that making wrote, in any pool. Each field is a theorem of its own file. Assumes nothing.
use Rattle.rules.specs.Settings.{Setting, Facts, document01}
use Rattle.rules.specs.Pools.{Pool}
use Rattle.rules.specs.Made.{MadeRun}
use Rattle.rules.proofs.Computed.Facts.{document01_facts}
use Rattle.rules.proofs.Returns.MadeMessages.{read_back, makes_bytes}
use Rattle.rules.proofs.Returns.SeededMessages.{makes_seeded}
use Rattle.rules.proofs.Runs.FewReturns.{few_for_return}
use Rattle.rules.proofs.Runs.Delivered.{taken_whole, made_accepted}
use Rattle.rules.proofs.Runs.EncodedTotals.{encoded_totals}

pub made_run : (σ : Setting) → Facts σ → (𝓟 : Pool σ) → MadeRun σ 𝓟
made_run σ facts 𝓟 = record {
  made = makes_bytes σ facts;
  made_seeded_lem = makes_seeded σ facts;
  read_back = read_back σ facts;
  delivered = taken_whole σ facts 𝓟;
  accepted = made_accepted σ facts 𝓟;
  totals = encoded_totals σ facts 𝓟;
  few = few_for_return σ facts 𝓟;
}

-- at the setting of document 01
pub document01_made_run : (𝓟 : Pool document01) → MadeRun document01 𝓟
document01_made_run = made_run document01 document01_facts
