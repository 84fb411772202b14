-- `listing::put_accepted` meets its contract: the word, then the number. Assumes nothing.
use native.Mathlib.Omega.{arith}
use Rattle.rules.specs.Recount.{accepted_text}
use Rattle.listing.proofs.Puts.{put_run, put_on}
use Rattle.listing.proofs.put_accepted.Goals as goal

pub returns : goal.returns
returns c =
    let word = put_run c.args.out.now 0 accepted_text _ c.copy.ensures (omega (arith, c.requires)) in
    put_on word c.put_number.ensures
