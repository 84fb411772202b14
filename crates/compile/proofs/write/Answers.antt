-- `compile::write` meets its contract: the sheet's refusal comes first (`refuse_sheet`); a sheet that is read comes to its counts
-- (`reading_counts`), and the length decides whether there is room (`refuse_short`, `done`). Assumes nothing.
use mathlib.Core.Path.{◌≡◌, sym, ◌∙◌}
use native.Mathlib.Omega.{arith}
use lib.ListN.{length}
use Rattle.rules.specs.Settings.{document01}
use Rattle.rules.specs.CircuitReader.{sheet_circuit}
use Rattle.records.proofs.Refusals.{outcome_passed}
use Rattle.sheet.proofs.Answers.{reading_counts}
use Rattle.compile.proofs.Answers.{refuse_sheet, refuse_short, done, counts_small, size_is}
use Rattle.compile.proofs.write.Goals as goal
use Rattle.compile.proofs.write.Goals.{After-circuit_size}

pub returns-in_err-counts : goal.returns-in_err-counts
returns-in_err-counts c =
    let r = refuse_sheet c.args.sheet.now c.args.out.now _ (sym c.in_err-counts.ensures) in
    (outcome_passed _ _ c.from_residual.ensures.1 ∙ r.0, r.1)

pub circuit_size-requires : goal.circuit_size-requires
circuit_size-requires c =
    let r = reading_counts c.args.sheet.now _ (sym c.in_ok-counts.ensures) in
    counts_small c.args.sheet.now r.0 _ r.1

-- the size is that of the circuit
size : (c : After-circuit_size) → c.circuit_size.result ≡ length (sheet_circuit document01 c.args.sheet.now)
size c =
    c.circuit_size.ensures ∙ size_is c.args.sheet.now _ (reading_counts c.args.sheet.now _ (sym c.in_ok-counts.ensures)).1

pub returns-then-out-circuit_size : goal.returns-then-out-circuit_size
returns-then-out-circuit_size c =
    let r = reading_counts c.args.sheet.now _ (sym c.in_ok-counts.ensures) in
    refuse_short c.args.sheet.now c.args.out.now r.0
    (omega (arith, c.if-out-circuit_size.true, size (goal.at.returns-then-out-circuit_size c).After-circuit_size))

pub put_circuit-requires : goal.put_circuit-requires
put_circuit-requires c =
    let r = reading_counts c.args.sheet.now _ (sym c.in_ok-counts.ensures) in
    (r.0, omega (arith, c.if-out-circuit_size.false, size (goal.at.put_circuit-requires c).After-circuit_size))

pub returns : goal.returns
returns c =
    let r = reading_counts c.args.sheet.now _ (sym c.in_ok-counts.ensures) in
    let p = c.put_circuit.ensures in
    done c.args.sheet.now c.args.out.now r.0 _ _ (omega (arith, p.behind)) (omega (arith, p.behind, p.room)) p.written
