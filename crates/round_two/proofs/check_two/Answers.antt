-- `round_two::check_two` meets its contract: the buffer holds just the own message of round two, of sigma and tau
-- (`message_alone`). Assumes nothing.
use mathlib.Core.Path.{refl}
use mathlib.Core.List.{[], ◌∷◌}
use Rattle.round_message.proofs.Writing.{message_alone}
use Rattle.round_two.specs.Two.{two_fault_at}
use Rattle.round_two.proofs.check_two.Goals as goal

pub returns : goal.returns
unfolding two_fault_at
returns c =
    let a = c.args in
    let own = message_alone 35 a.w.id a.k.own _ c.write_two.new.out (c.sigma_of-sigma.result ∷ a.w.tau ∷ []) refl
    c.write_two.ensures in
    rw (own, c.sigma_of-sigma.ensures) at c.check_round.ensures
