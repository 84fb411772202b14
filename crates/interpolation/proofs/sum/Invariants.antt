-- `interpolation::sum`: after i terms the fraction is the sum of these.
use Rattle.std.proofs.Common.{◌≡◌, ◌-◌, ◌≤◌, length}
use Rattle.interpolation.specs.Fractions.{Element, sum_of}
use Rattle.interpolation.proofs.sum.Given as goal

-- the first i terms are added up
abbrev pub invariant-loop-i : goal.invariant-loop-i
invariant-loop-i l = record {
  within : l.i ≤ length l.y;
  element : Element l.done;
  is : l.done ≡ sum_of l.y l.weights l.s l.r l.i;
}

abbrev pub decreases-loop-i : goal.decreases-loop-i
decreases-loop-i l = length l.y - l.i
