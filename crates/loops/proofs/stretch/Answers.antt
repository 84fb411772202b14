-- `loops::stretch`: the entry that is read is a power, and so is the one that is written.
use Rattle.std.proofs.Common.{arith, ◌-◌}
use Rattle.field.proofs.Below.{product_below}
use Rattle.loops.proofs.Stretches.{first_at, factor_of, start, entry_at, turn}
use Rattle.loops.proofs.stretch.Goals as goal

pub mul-by-requires : goal.mul-by-requires
mul-by-requires c =
    let a = c.args in
    let e = first_at a.s a.out.now a.k (a.k - 1) c.requires.first_powers (omega arith) in
    (rw e (product_below (a.k - 1) (λ i. a.s)), omega arith)

pub loop-i-init : goal.loop-i-init
loop-i-init c =
    let a = c.args in
    let e = c.requires.first_powers in
    start _ _ _ _ (omega arith) e (factor_of a.s a.out.now a.k _ (omega arith) e c.mul-by.ensures)

pub mul-requires : goal.mul-requires
mul-requires c =
    let l = c.loop-i in
    let a = c.args in
    let power_low = λ (n : _). product_below n (λ i. a.s) in
    (rw (entry_at _ l.invariant (l.i - a.k) (omega arith)) (power_low (l.i - a.k)), rw l.invariant.factor (power_low a.k))

pub loop-i-preserved : goal.loop-i-preserved
loop-i-preserved c =
    turn _ c.loop-i.invariant c.mul.result (omega arith) (omega arith) (omega arith) c.mul.ensures
