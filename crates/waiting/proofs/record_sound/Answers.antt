-- `waiting::record_sound` meets its contract: each test is put into the definition (`stage_over` and so on). Assumes nothing.
use mathlib.Core.Path.{◌≡◌, sym, ◌∙◌}
use mathlib.Core.Bool.{true, true≢false}
use Prim.Native.Nat.{◌≤◌, ◌<◌}
use native.Mathlib.Omega.{arith}
use borrow.Author.Tests.{lt-leb, ltb-true, ltb-false, eqb-true, eqb-false}
use Rattle.limits.specs.Sheets.{pair_sound}
use Rattle.waiting.proofs.Limits.{stage_over, record_free, pair_fails, d_over, e_over, numbers_decide}
use Rattle.waiting.proofs.record_sound.Goals as goal
use Rattle.waiting.proofs.record_sound.Goals.{then-pair_sound, else-pair_sound, then-x-from, else-x-from}

pub returns-else-x : goal.returns-else-x
returns-else-x c =
    let a = c.args in
    rw (lt-leb a.x.stage 3 (omega (arith, c.if-x.false))) (stage_over a.gates a.x a.ns.now (omega (arith, c.if-x.false)))

pub returns-then-is_free : goal.returns-then-is_free
returns-then-is_free c =
    let a = c.args in
    rw c.if-is_free.true
    (record_free a.gates a.x a.ns.now (omega (arith, c.if-x.true)) (eqb-true a.x.stage 0 (sym c.is_free.ensures ∙ c.if-is_free.true)))

pub returns-else-x-from-2 : goal.returns-else-x-from-2
returns-else-x-from-2 c =
    let a = c.args in
    let known : a.x.stage ≤ 3 = omega (arith, c.if-x.true) in
    let waits : a.x.stage ≡ 0 → ⊥ = eqb-false a.x.stage 0 (sym c.is_free.ensures ∙ c.if-is_free.false) in
    rw c.if-x-from-2.false
    (elim c.if-x-from.branch [
      | else-x-from w ↦ elim c.if-pair_sound.branch [
        | else-pair_sound v ↦ pair_fails a.gates a.x a.ns.now known waits (sym c.pair_sound.ensures ∙ v.if-pair_sound.false)
        | then-pair_sound v ↦
            let pair : pair_sound a.gates a.x.r a.x.s ≡ true = sym c.pair_sound.ensures ∙ v.if-pair_sound.true in
            let over : v.from.result ≤ a.x.d = ltb-false a.x.d v.from.result (sym v.value-is ∙ w.if-x-from.false) in
            d_over a.gates a.x a.ns.now known waits pair (omega (arith, over, v.from.ensures))
      ]
      | then-x-from w ↦ elim c.if-pair_sound.branch [
        | else-pair_sound v ↦ absurd (true≢false (sym w.if-x-from.true ∙ v.value-is ∙ v.if-pair_sound.false))
        | then-pair_sound v ↦
            let pair : pair_sound a.gates a.x.r a.x.s ≡ true = sym c.pair_sound.ensures ∙ v.if-pair_sound.true in
            let below : a.x.d < v.from.result = ltb-true a.x.d v.from.result (sym v.value-is ∙ w.if-x-from.true) in
            let over : w.from-then-x-from.result ≤ a.x.e
            = ltb-false a.x.e w.from-then-x-from.result (sym w.value-is ∙ c.if-x-from-2.false) in
            e_over a.gates a.x a.ns.now known waits pair (omega (arith, below, v.from.ensures))
            (omega (arith, over, w.from-then-x-from.ensures))
      ]
    ])

pub returns-then-x-from-2 : goal.returns-then-x-from-2
returns-then-x-from-2 c =
    let a = c.args in
    let known : a.x.stage ≤ 3 = omega (arith, c.if-x.true) in
    let waits : a.x.stage ≡ 0 → ⊥ = eqb-false a.x.stage 0 (sym c.is_free.ensures ∙ c.if-is_free.false) in
    c.all_below.ensures
    ∙ elim c.if-x-from.branch [
      | else-x-from w ↦ absurd (true≢false (sym c.if-x-from-2.true ∙ w.value-is ∙ w.if-x-from.false))
      | then-x-from w ↦ elim c.if-pair_sound.branch [
        | else-pair_sound v ↦ absurd (true≢false (sym w.if-x-from.true ∙ v.value-is ∙ v.if-pair_sound.false))
        | then-pair_sound v ↦
            let pair : pair_sound a.gates a.x.r a.x.s ≡ true = sym c.pair_sound.ensures ∙ v.if-pair_sound.true in
            let d : a.x.d < v.from.result = ltb-true a.x.d v.from.result (sym v.value-is ∙ w.if-x-from.true) in
            let e : a.x.e < w.from-then-x-from.result
            = ltb-true a.x.e w.from-then-x-from.result (sym w.value-is ∙ c.if-x-from-2.true) in
            numbers_decide a.gates a.x a.ns.now known waits pair (omega (arith, d, v.from.ensures))
            (omega (arith, e, w.from-then-x-from.ensures))
      ]
    ]
