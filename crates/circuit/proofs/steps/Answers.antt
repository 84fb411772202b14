-- `circuit::steps` meets its contract. Each turn takes one step, or ends the reading (StepLaws). Assumes nothing.
use mathlib.Core.Path.{◌≡◌, refl, sym, ap, ◌∙◌}
use Prim.Native.Nat.{ℕ, ◌-◌}
use native.Mathlib.Nat.{add-sub_cancel_left}
use lib.ListN.{get_or}
use Rattle.std.specs.Prelude.{Option, None, Result, Err}
use Rattle.std.specs.Option.{ok_or}
use Rattle.records.specs.Outcome.{refused}
use Rattle.records.specs.Refusals.{number_of}
use Rattle.records.specs.declared.Refusal.{Refusal}
use Rattle.records.specs.declared.Refusal.TheVariants as why
use Rattle.records.proofs.Refusals.{outcome_passed, number_nonzero}
use Rattle.rules.specs.Settings.{document01}
use Rattle.rules.specs.CircuitReader.{body_lengths}
use Rattle.circuit.specs.declared.StepKind.{StepKind}
use Rattle.circuit.specs.Reading.{code_of}
use Rattle.circuit.proofs.StepLaws.{code_low, code_high, read_start, read_end, read_next, refuse_kind, refuse_cut, refuse_step, same_counts}
use Rattle.circuit.proofs.steps.Goals as goal
use Rattle.circuit.proofs.steps.Goals.{After-code}

-- the refusal of an unknown kind
unknown : (o : Option StepKind) (e : Refusal) → o ≡ None → ◌≡◌ {A = Result StepKind Refusal} (Err e) (ok_or o why.Kind) → e ≡ why.Kind
unknown o e none is = let z : ◌≡◌ {A = Result StepKind Refusal} (Err e) (Err why.Kind) = rw none at is in cc

-- the kind byte, and the length in the table
module _ (c : After-code) where
  abbrev n : ℕ
  n = get_or c.args.lengths.now (c.code.result - 1) 0

  byte_is : get_or c.args.s.now c.loop-at.at 0 ≡ code_of c.in_ok-kind.kind
  byte_is = rw c.in_ok-kind.ensures.ok_part at c.of.ensures

  table : n ≡ get_or (body_lengths document01) (code_of c.in_ok-kind.kind - 1) 0
  table = let k = c.in_ok-kind.kind in rw c.code.ensures (c.requires.0.rule (code_of k) (code_low k) (code_high k))

pub loop-at-init : goal.loop-at-init
loop-at-init c =
    let e = c.default-counts.ensures in
    rw (same_counts c.default-counts.result (record { wires = 0; multiplications = 0; tests = 0 }) e.0 e.1.0 e.1.1) (read_start _ _)

pub returns-in_err-kind : goal.returns-in_err-kind
returns-in_err-kind c =
    let none = c.in_err-kind.ensures.ok_part in
    outcome_passed _ _ c.from_residual.ensures.1
    ∙ ap (λ (r : Refusal). refused (number_of r)) (unknown _ _ none c.in_err-kind.ensures.value)
    ∙ sym (refuse_kind c.args.entries c.args.s.now c.loop-at.invariant c.loop-at-test.true (rw none at c.of.ensures))

pub returns-then-s-start : goal.returns-then-s-start
returns-then-s-start c =
    let a = (goal.at.returns-then-s-start c).After-code in
    sym (refuse_cut c.args.entries c.args.s.now c.loop-at.invariant c.loop-at-test.true c.in_ok-kind.kind (byte_is a) _ (table a) c.if-s-start.true)

pub returns-in_err-check_step : goal.returns-in_err-check_step
returns-in_err-check_step c =
    let a = (goal.at.returns-in_err-check_step c).After-code in
    let fault = rw add-sub_cancel_left at c.in_err-check_step.ensures in
    outcome_passed _ _ c.from_residual-in_err-check_step.ensures.1
    ∙ sym (refuse_step c.args.entries c.args.s.now c.loop-at.invariant c.loop-at-test.true c.in_ok-kind.kind (byte_is a) _ (table a)
    c.if-s-start.false _ fault (number_nonzero _))

pub loop-at-preserved : goal.loop-at-preserved
loop-at-preserved c =
    let a = (goal.at.loop-at-preserved c).After-code in
    let fault = rw add-sub_cancel_left at c.in_ok-check_step.ensures in
    rw c.with-counts.ensures
    (read_next c.args.entries c.args.s.now c.loop-at.invariant c.loop-at-test.true c.in_ok-kind.kind (byte_is a) _ (table a)
    c.if-s-start.false _ fault refl)

pub returns : goal.returns
returns c = c.limited.ensures ∙ sym (read_end c.args.entries c.args.s.now c.loop-at.invariant c.loop-at-test.false)
