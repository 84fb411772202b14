-- `values::write_bits`: one more bit is written (`fill_next`), and at the end all are. Assumes nothing.
use mathlib.Core.Path.{◌≡◌, sym, ap, ◌∙◌}
use Prim.Native.Nat.{ℕ, ◌+◌, ◌/◌, ◌%◌, ◌^◌}
use native.Mathlib.Nat.{div-one, div-div-eq-div-mul, pow-suc}
use native.Mathlib.Numerals.{add-one}
use native.Mathlib.Omega.{arith}
use Rattle.algebra.proofs.Tables.{fill_none, fill_next, fill_all}
use Rattle.values.proofs.write_bits.Invariants.{bit}
use Rattle.values.proofs.write_bits.Goals as goal

half : (v j rest : ℕ) → rest ≡ v / 2 ^ j → rest / 2 ≡ v / 2 ^ (j + 1)
half v j rest e =
    ap (λ (x : ℕ). x / 2) e ∙ div-div-eq-div-mul v (2 ^ j) 2 ∙ rw add-one (ap (λ (x : ℕ). v / x) (sym (pow-suc 2 j)))

pub loop-bit-init : goal.loop-bit-init
loop-bit-init c = (fill_none (bit c.args.v) c.args.out.now, sym (div-one c.args.v))

pub loop-bit-preserved : goal.loop-bit-preserved
loop-bit-preserved c =
    let l = c.loop-bit in (
      fill_next (bit c.args.v) c.args.out.now l.out l.bit-index _ (omega arith) l.invariant.0 (ap (λ (x : ℕ). x % 2) l.invariant.1),
      half c.args.v l.bit-index l.rest l.invariant.1,
    )

pub returns : goal.returns
returns c =
    fill_all (bit c.args.v) c.args.out.now c.loop-bit.out c.loop-bit.bit-index (omega arith) (omega arith) c.loop-bit.invariant.0
