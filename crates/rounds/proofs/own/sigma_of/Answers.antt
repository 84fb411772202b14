-- `rounds::own::sigma_of` meets its contract: a, b and c are elements of the share. Assumes nothing.
use Rattle.field.proofs.Below.{member_below}
use Rattle.rounds.specs.Waits.{sigma_at}
use Rattle.rounds.proofs.own.sigma_of.Goals as goal

pub sigma-requires : goal.sigma-requires
sigma-requires c =
    let p = c.requires in
    (p.d_below, p.e_below, member_below _ _ p.elements, member_below _ _ p.elements, member_below _ _ p.elements, p.rh_below)

pub returns : goal.returns
unfolding sigma_at
returns c = c.sigma.ensures
