-- `table::has_id`: one more id is the one or not (`id_next`); at the end none is left. Assumes nothing.
use Rattle.std.proofs.Common.{◌≡◌, ◌/◌, length, get_or, sym, ◌∙◌, arith}
use Rattle.words.specs.Bytes.{elements_of}
use Rattle.words.proofs.Elements.{length_elements, element_at_lem}
use Rattle.table.proofs.Ids.{id_next, id_end}
use Rattle.table.proofs.has_id.Goals as goal

pub loop-k-preserved : goal.loop-k-preserved
loop-k-preserved c =
    let xs = elements_of 4 c.args.ids.now in
    let k = c.loop-k.k in
    let n : length xs ≡ length c.args.ids.now / 4 = length_elements 4 c.args.ids.now in
    let e : c.read_u32.result ≡ get_or xs k 0 = c.read_u32.ensures ∙ sym (element_at_lem 4 c.args.ids.now k c.loop-k-test.true) in
    rw e (c.loop-k.invariant ∙ id_next c.args.id xs k c.loop-k.found (omega arith))

pub returns : goal.returns
returns c =
    let xs = elements_of 4 c.args.ids.now in
    let n : length xs ≡ length c.args.ids.now / 4 = length_elements 4 c.args.ids.now in
    sym (c.loop-k.invariant ∙ id_end c.args.id xs c.loop-k.k c.loop-k.found (omega arith))
