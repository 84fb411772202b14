-- `listing::put_options` meets its contract. The loop's invariant: the lines of the options before are put there
-- (`options_next`). Assumes nothing.
use mathlib.Core.Path.{◌≡◌, sym, ap, ◌∙◌}
use mathlib.Core.List.{List}
use Prim.Native.Nat.{ℕ, ◌+◌}
use native.Mathlib.Omega.{arith}
use lib.ListN.{get_or, drop}
use lib.Seq.{get_or-drop}
use Rattle.words.specs.Bytes.{elements_of}
use Rattle.rules.specs.Recount.{line_text, option_lines}
use Rattle.listing.specs.Text.{Put}
use Rattle.listing.proofs.Lines.{options_next, options_most, options_none}
use Rattle.listing.proofs.Puts.{put_none, put_on, put_as}
use Rattle.listing.proofs.put_options.Goals as goal

-- one line more
turn : (column first k : ℕ) (ts s : List ℕ) (at : ℕ) (t : List ℕ) (next : ℕ) (u : List ℕ) (end total : ℕ)
    → Put s at (option_lines column 0 k (drop first ts)) t next → total ≡ get_or ts (first + k) 0
    → Put t next (line_text column k total) u end → Put s at (option_lines column 0 (k + 1) (drop first ts)) u end
turn column first k ts s at t next u end total p e q =
    let g : get_or (drop first ts) k 0 ≡ total = get_or-drop first ts k 0 ∙ sym e in
    put_as (put_on p q) _ (options_next column k (drop first ts) ∙ rw g)

pub loop-option-init : goal.loop-option-init
loop-option-init c =
    put_as (put_none c.args.out.now c.args.at (omega (arith, c.requires.room))) _ (options_none _ _)

pub put_line-next-requires : goal.put_line-next-requires
put_line-next-requires c =
    let a = c.args in
    let p = c.loop-option.invariant in
    let m = options_most a.column 0 c.loop-option.option (drop a.first (elements_of 4 a.totals.now)) in
    omega (arith, c.requires.room, c.loop-option-test.true)

pub loop-option-preserved : goal.loop-option-preserved
loop-option-preserved c =
    let a = c.args in
    turn a.column a.first c.loop-option.option (elements_of 4 a.totals.now) _ _ _ _ _ _ _ c.loop-option.invariant c.at-total.ensures
    c.put_line-next.ensures

pub returns : goal.returns
returns c =
    let a = c.args in
    let e : a.n ≡ c.loop-option.option = omega arith in
    put_as c.loop-option.invariant _ (ap (λ (k : ℕ). option_lines a.column 0 k (drop a.first (elements_of 4 a.totals.now))) e)
