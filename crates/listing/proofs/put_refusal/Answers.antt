-- `listing::put_refusal` meets its contract: the word, then the number (`refusal_is`). Assumes nothing.
use native.Mathlib.Omega.{arith}
use Rattle.rules.specs.Recount.{refused_text}
use Rattle.listing.proofs.Lines.{refusal_is}
use Rattle.listing.proofs.Puts.{put_run, put_on, put_as}
use Rattle.listing.proofs.put_refusal.Goals as goal

pub returns : goal.returns
returns c =
    let word = put_run c.args.out.now 0 refused_text _ c.copy.ensures (omega (arith, c.requires)) in
    put_as (put_on word (rw c.number.ensures at c.put_number.ensures)) _ (refusal_is _)
