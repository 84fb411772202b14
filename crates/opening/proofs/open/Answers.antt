-- `opening::open` meets its contract: where the check refuses, all that is lent stays (`open_refused`), else the bytes and numbers
-- are written that the check has measured (`open_done`). Assumes nothing.
use native.Mathlib.Omega.{arith}
use Rattle.records.proofs.Refusals.{outcome_passed}
use Rattle.opening.proofs.Opening.{servers_fit_lem, open_roomy, numbers_fit, open_refused, open_done}
use Rattle.opening.proofs.open.Goals as goal

pub returns-in_err-size : goal.returns-in_err-size
returns-in_err-size c =
    let a = c.args in
    open_refused a.servers a.own a.sheet.now a.returns a.least a.table.now a.records a.numbers.now _ c.in_err-size.ensures _
    (outcome_passed _ _ c.from_residual.ensures.1)

pub overflow_cast-servers : goal.overflow_cast-servers
overflow_cast-servers c =
    let a = c.args in
    let few = servers_fit_lem a.servers a.own a.sheet.now a.returns a.least a.table.now a.records a.numbers.now _ c.in_ok-size.ensures in
    omega (arith, few)

pub overflow_cast-own : goal.overflow_cast-own
overflow_cast-own c =
    let a = c.args in
    let few = servers_fit_lem a.servers a.own a.sheet.now a.returns a.least a.table.now a.records a.numbers.now _ c.in_ok-size.ensures in
    omega (arith, few)

pub write_fresh-requires : goal.write_fresh-requires
write_fresh-requires c =
    let a = c.args in
    open_roomy a.servers a.own a.sheet.now a.returns a.least a.table.now a.records a.numbers.now _ c.in_ok-size.ensures

pub erase-requires : goal.erase-requires
erase-requires c =
    let a = c.args in
    numbers_fit a.servers a.own a.sheet.now a.returns a.least a.table.now a.records a.numbers.now _ c.in_ok-size.ensures

pub returns : goal.returns
returns c =
    let a = c.args in
    rw (c.erase.ensures, c.write_fresh.ensures)
    (open_done a.servers a.own a.sheet.now a.returns a.least a.table.now a.records a.numbers.now _ c.in_ok-size.ensures)
