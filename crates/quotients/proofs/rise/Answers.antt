-- `quotients::rise`: two steps more, and one place or two that are filled last (`Rising`).
use Rattle.std.proofs.Common.{arith, ◌+◌, ◌<◌, ◌≤◌, length}
use Rattle.std.proofs.Math.Dec.{lit<}
use Rattle.std.proofs.Math.Nat.{mod-lt}
use Rattle.quotients.proofs.Rising.{rising_low, start, turn, finish_one, finish_two}
use Rattle.quotients.proofs.rise.Goals as goal

pub loop-i-init : goal.loop-i-init
loop-i-init c = start c.args.n c.args.s c.args.out.now c.args.first c.requires.first_value.0 (omega arith)

pub mul-requires : goal.mul-requires
mul-requires c = (rising_low _ _ c.loop-i.invariant, rw c.next_over-a.ensures (mod-lt _ (lit< tt)))

pub mul-acc-requires : goal.mul-acc-requires
mul-acc-requires c = (rising_low _ _ c.loop-i.invariant, rw c.mul-in-loop-i.ensures (mod-lt _ (lit< tt)))

pub loop-i-preserved : goal.loop-i-preserved
loop-i-preserved c =
    let l = c.loop-i in
    let h : l.i + 2 < length c.args.out.now = omega arith in
    let a = c.next_over-a.ensures in
    let b = c.next_over-b.ensures in
    turn c.args.n c.args.s l.invariant c.requires.first_value.2 (omega arith) _ _ _ _ _ h a b c.mul.ensures
    c.mul-in-loop-i.ensures c.mul-acc.ensures

pub mul-requires-then-i-m : goal.mul-requires-then-i-m
mul-requires-then-i-m c = (rising_low _ _ c.loop-i.invariant, rw c.next_over.ensures (mod-lt _ (lit< tt)))

pub returns-then-i-m : goal.returns-then-i-m
returns-then-i-m c =
    let l = c.loop-i in
    let h : l.i + 1 < length c.args.out.now = omega arith in
    let k : length c.args.out.now ≤ l.i + 2 = omega arith in
    finish_two c.args.n c.args.s l.invariant c.requires.first_value.2 (omega arith) _ _ h k c.next_over.ensures
    c.mul-then-i-m.ensures

pub returns-else-i-m : goal.returns-else-i-m
returns-else-i-m c =
    let l = c.loop-i in
    let k : length c.args.out.now ≤ l.i + 1 = omega arith in
    finish_one c.args.n c.args.s l.invariant c.requires.first_value.2 (omega arith) k
