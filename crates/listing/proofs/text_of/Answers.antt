-- `listing::text_of` meets its contract: what `text` says of a start holds of each input with it (`lists_all`). Assumes
-- nothing.
use mathlib.Core.Path.{sym}
use native.Mathlib.Omega.{arith}
use lib.Seq.{length-take-le}
use Rattle.listing.proofs.Starts.{lists_all}
use Rattle.listing.proofs.text_of.Goals as goal

pub slice_bounds-text-end : goal.slice_bounds-text-end
slice_bounds-text-end c =
    sym (length-take-le c.args.n c.args.start.now (omega (arith, c.requires.long, c.requires.within)))

pub returns : goal.returns
returns c = lists_all _ _ _ _ c.text.ensures
