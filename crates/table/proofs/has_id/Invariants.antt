-- The loop of `table::has_id`: the id is one of those before number k, or of those from there on.
use Rattle.std.proofs.Common.{◌≡◌, ◌||◌, drop}
use Rattle.words.specs.Bytes.{elements_of}
use Rattle.rules.specs.Server.{is_member}
use Rattle.table.proofs.has_id.Given as goal

abbrev pub invariant-loop-k : goal.invariant-loop-k
invariant-loop-k l = is_member l.id (elements_of 4 l.ids) ≡ (l.found || is_member l.id (drop l.k (elements_of 4 l.ids)))
