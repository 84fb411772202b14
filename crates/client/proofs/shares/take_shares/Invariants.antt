-- `client::shares::take_shares` meets its contract. The loop's invariant: the first e elements are server 0's. Assumes nothing.
use Rattle.whole.proofs.Changing.{Changed}
use Rattle.client.proofs.FirstShare.{rest_at}
use Rattle.client.proofs.shares.take_shares.Given as goal

abbrev pub invariant-loop-e : goal.invariant-loop-e
invariant-loop-e l = Changed (rest_at l.random l.others l.initial.w) l.initial.w l.w l.e
