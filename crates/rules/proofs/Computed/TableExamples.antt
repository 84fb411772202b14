-- The rows about a server's table come out: antt computes each row. Assumes nothing.
use mathlib.Core.Bool.{true}
use mathlib.Core.Path.{◌≡◌, refl}
use Rattle.algebra.specs.Lists.{every}
use Rattle.rules.specs.SoundExamples.{limits}
use Rattle.rules.specs.TableExamples.{on_tables, in_order, other_orders, erasures}
use Rattle.rules.specs.WaitingExamples.{many_wait, mixed, eight}
use Rattle.rules.specs.OrderExamples.{three_servers, same_slots, reversed}
use Rattle.rules.specs.ChallengeExamples.{three_pairs, typing_slip}
use Rattle.rules.specs.LeastExamples.{small_pools}
use Rattle.rules.specs.EntryExamples.{verdict_first, while_accepted}
use Rattle.rules.specs.StateExamples.{states}
use Rattle.rules.proofs.Computed.Computing.{everything}

pub limits_hold : every (λ row. row.holds) limits ≡ true
unfolding everything limits
limits_hold = refl

pub on_tables_hold : every (λ row. row.holds) on_tables ≡ true
unfolding everything on_tables
on_tables_hold = refl

pub in_order_hold : every (λ row. row.holds) in_order ≡ true
unfolding everything in_order
in_order_hold = refl

pub other_orders_hold : every (λ row. row.holds) other_orders ≡ true
unfolding everything other_orders
other_orders_hold = refl

pub erasures_hold : every (λ row. row.holds) erasures ≡ true
unfolding everything erasures
erasures_hold = refl

pub mixed_hold : every (λ row. row.holds) mixed ≡ true
unfolding everything mixed
mixed_hold = refl

pub eight_hold : every (λ row. row.holds) eight ≡ true
unfolding everything eight many_wait
eight_hold = refl

pub three_servers_hold : every (λ row. row.holds) three_servers ≡ true
unfolding everything three_servers
three_servers_hold = refl

pub reversed_hold : every (λ row. row.holds) reversed ≡ true
unfolding everything reversed same_slots
reversed_hold = refl

pub three_pairs_hold : every (λ row. row.holds) three_pairs ≡ true
unfolding everything three_pairs
three_pairs_hold = refl

pub typing_slip_hold : every (λ row. row.holds) typing_slip ≡ true
unfolding everything typing_slip same_slots
typing_slip_hold = refl

pub small_pools_hold : every (λ row. row.holds) small_pools ≡ true
unfolding everything small_pools
small_pools_hold = refl

pub verdict_first_hold : every (λ row. row.holds) verdict_first ≡ true
unfolding everything verdict_first
verdict_first_hold = refl

pub while_accepted_hold : every (λ row. row.holds) while_accepted ≡ true
unfolding everything while_accepted many_wait
while_accepted_hold = refl

pub states_hold : every (λ row. row.holds) states ≡ true
unfolding everything states many_wait
states_hold = refl
