-- `listing::put_options` meets its contract. The loop's invariant: the lines of the options before are put there
-- (`options_next`). Assumes nothing.
use lib.ListN.{drop}
use Rattle.words.specs.Bytes.{elements_of}
use Rattle.rules.specs.Recount.{option_lines}
use Rattle.listing.specs.Text.{Put}
use Rattle.listing.proofs.put_options.Given as goal

abbrev pub invariant-loop-option : goal.invariant-loop-option
invariant-loop-option l =
    Put l.initial.out l.at (option_lines l.column 0 l.option (drop l.first (elements_of 4 l.totals))) l.out l.next
