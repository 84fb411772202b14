-- `round_one::take_one` meets its contract: the sums are elements, they go into the record, and the message is that of round two
-- with them. Assumes nothing.
use mathlib.Core.Path.{refl}
use Rattle.field.proofs.Below.{sum_below}
use Rattle.rules.specs.Messages.{element_sum}
use Rattle.round_one.specs.One.{summed_slot, message_at}
use Rattle.round_one.proofs.take_one.Goals as goal

pub sigma_of-sigma-requires : goal.sigma_of-sigma-requires
unfolding element_sum
sigma_of-sigma-requires c =
    let p = c.requires.sharing in
    record {
      limited = p.limited;
      long = p.long;
      elements = p.elements;
      rh_below = p.rh_below;
      d_below = rw c.element_sum-d.ensures (sum_below _ _);
      e_below = rw c.element_sum-e.ensures (sum_below _ _);
    }

pub returns : goal.returns
unfolding summed_slot message_at
returns c = (
  rw (c.from.ensures, c.from-2.ensures, c.element_sum-d.ensures, c.element_sum-e.ensures) refl,
  rw (c.sigma_of-sigma.ensures, c.element_sum-d.ensures, c.element_sum-e.ensures) at c.write_two.ensures,
)
