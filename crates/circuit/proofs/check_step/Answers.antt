-- `circuit::check_step` meets its contract: each kind has its own test. Assumes nothing.
use mathlib.Core.Logic.{⊎_elim}
use Rattle.rules.specs.CircuitReader.{step_of, step_fault}
use Rattle.circuit.proofs.StepLaws.{whole_body}
use Rattle.circuit.proofs.check_step.Goals as goal

pub returns-in-Constant : goal.returns-in-Constant
unfolding step_of step_fault
returns-in-Constant c =
    let w = whole_body 4 c.args.body.now (rw c.in-Constant.is at c.requires) in
    rw (c.in-Constant.is, ← w, ← c.read_u32.ensures) c.check_below.ensures

pub returns-in-Entry : goal.returns-in-Entry
unfolding step_of step_fault
returns-in-Entry c =
    let w = whole_body 2 c.args.body.now (rw c.in-Entry.is at c.requires) in
    rw (c.in-Entry.is, ← w, ← c.read_u16.ensures) c.check_below-in-Entry.ensures

pub returns-in-Add : goal.returns-in-Add
unfolding step_of step_fault
returns-in-Add c = ⊎_elim (λ e. rw e c.check_pair.ensures) (λ e. rw e c.check_pair.ensures) c.in-Add.is

pub returns-in-Scale : goal.returns-in-Scale
unfolding step_of step_fault
returns-in-Scale c = rw c.in-Scale.is c.check_scale.ensures

pub returns-in-Test : goal.returns-in-Test
unfolding step_of step_fault
returns-in-Test c =
    let w = whole_body 2 c.args.body.now (rw c.in-Test.is at c.requires) in
    rw (c.in-Test.is, ← w, ← c.read_u16-in-Test.ensures) c.check_below-in-Test.ensures
