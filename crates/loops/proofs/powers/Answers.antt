-- `loops::powers`: where the first places were lent, they hold the powers.
use Rattle.std.proofs.Common.{arith, sym, ◌∙◌, ◌≤◌, ◌++◌, List, ℕ, length, take, drop, ◌≡◌}
use Rattle.std.proofs.lemmas.List.{length-append, length-drop, length-take-le, take-take}
use Rattle.loops.proofs.Stretches.{lent_first}
use Rattle.loops.proofs.powers.Goals as goal

-- the buffer is as long as before
long : (d p : List ℕ) → 32 ≤ length d → length p ≡ length (take 8 d) → 32 ≤ length (p ++ drop 8 d)
long d p h e = omega (arith, e, length-append p (drop 8 d), length-drop 8 d, length-take-le 8 d (omega arith))

pub slice_bounds-stretch-end-2 : goal.slice_bounds-stretch-end-2
slice_bounds-stretch-end-2 c = sym (length-take-le 32 _ (long c.args.out.now _ (omega arith) c.chain-2.auto.out))

pub stretch-requires-2-clause-first_powers : goal.stretch-requires-2-clause-first_powers
stretch-requires-2-clause-first_powers c =
    take-take 8 32 _ (omega arith) ∙ lent_first _ _ _ 8 (omega arith) c.chain-2.ensures

pub stretch-requires-3-clause-first_powers : goal.stretch-requires-3-clause-first_powers
stretch-requires-3-clause-first_powers c =
    lent_first _ _ _ 32 (long _ _ (omega arith) c.chain-2.auto.out) c.stretch-2.ensures
