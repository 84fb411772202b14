-- `shares::read_brought` meets its contract: the kind byte chooses, in the code as in the definition; a seed fills the part that is
-- lent (`seed_put`), element bytes are read into it (`elements_are`). Assumes nothing.
use mathlib.Core.Path.{sym, ap, ◌∙◌}
use native.Mathlib.Omega.{arith}
use Rattle.words.specs.Bytes.{splice}
use Rattle.shares.proofs.Reading.{length_lent, seed_long, seed_put, elements_long, elements_are}
use Rattle.shares.proofs.read_brought.Goals as goal

pub fill_elements-requires : goal.fill_elements-requires
fill_elements-requires c =
    let a = c.args in
    let l = seed_long a.size a.m.now a.x.now c.requires.0 (sym c.brings_seed.ensures ∙ c.if-brings_seed.true) in
    (l, omega (arith, length_lent a.start a.size a.numbers.now c.requires.1, c.requires.0.size_most))

pub returns-then-brings_seed : goal.returns-then-brings_seed
returns-then-brings_seed c =
    let a = c.args in
    seed_put a.size a.m.now a.x.now c.requires.0 (sym c.brings_seed.ensures ∙ c.if-brings_seed.true) a.numbers.now a.start
    c.id_of-id.result c.fill_elements.new.out c.requires.1 c.id_of-id.ensures c.fill_elements.ensures

pub read_share-requires : goal.read_share-requires
read_share-requires c =
    let a = c.args in
    (elements_long a.size a.m.now a.x.now c.requires.0 (sym c.brings_seed.ensures ∙ c.if-brings_seed.false), c.requires.1)

pub returns : goal.returns
returns c =
    let a = c.args in
    c.read_share.ensures
    ∙ ap (splice a.numbers.now a.start)
    (elements_are a.size a.m.now a.x.now c.requires.0 (sym c.brings_seed.ensures ∙ c.if-brings_seed.false))
