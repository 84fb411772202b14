-- `prover::tables::Tables::shift` meets its contract: at a point the given number, beyond them the one that follows. Assumes nothing.
use mathlib.Core.Path.{ap, ◌∙◌}
use Prim.Native.Nat.{◌+◌, ◌≤◌}
use native.Mathlib.Omega.{arith}
use lib.ListN.{length}
use Rattle.field.specs.Residues.{residues}
use Rattle.prover.proofs.Backwards.{back_long, fall_low, inverse_at_low}
use Rattle.prover.proofs.Shifts.{shift_at_first, shift_at_other, shift_after}
use Rattle.prover.proofs.tables.Tables.shift.Goals as goal

pub overflow_sub-inverse : goal.overflow_sub-inverse
overflow_sub-inverse c =
    omega (arith, back_long c.args.self.ready, c.requires.2)

pub bounds-self-self : goal.bounds-self-self
bounds-self-self c =
    omega (arith, back_long c.args.self.ready, c.requires.2)

pub overflow_cast-inverse : goal.overflow_cast-inverse
overflow_cast-inverse c =
    let within : c.args.j ≤ length c.args.self.falls.now + length c.args.self.falls.now = omega (arith, c.requires.2) in
    let inverse_low = inverse_at_low c.args.self.ready c.args.j (omega arith) within in
    omega (arith, inverse_low)

pub mul-others-requires : goal.mul-others-requires
mul-others-requires c =
    let within : c.args.j ≤ length c.args.self.falls.now + length c.args.self.falls.now = omega (arith, c.requires.2) in
    let inverse_low = inverse_at_low c.args.self.ready c.args.j (omega arith) within in
    (fall_low c.args.self.ready _ (omega (arith, c.requires.2)), inverse_low)

pub returns-then-j-eq0 : goal.returns-then-j-eq0
returns-then-j-eq0 c =
    shift_at_first _ _ c.args.self.ready.few c.requires.0 c.args.j c.if-j-eq0.true

pub returns-then-j-n : goal.returns-then-j-n
returns-then-j-n c =
    shift_at_other _ _ c.args.self.ready.few c.requires.0 c.args.j c.if-j-eq0.false c.if-j-n.true

pub returns-else-j-n : goal.returns-else-j-n
returns-else-j-n c =
    c.mul_add.ensures
    ∙ ap (λ t. residues.◌⊕◌ (residues.◌⊗◌ c.args.k t) 2147483646) c.mul-others.ensures
    ∙ shift_after _ _ c.args.self.ready.few c.requires.0 c.args.self.ready c.args.j c.args.k c.requires.1
    c.if-j-n.false c.requires.2
