-- `prover::curve_f` meets its contract: the values, then these with their weights. Assumes nothing.
use mathlib.Core.Path.{sym, ◌∙◌, subst}
use Prim.Native.Nat.{ℕ, ◌<◌}
use native.Mathlib.Omega.{arith}
use lib.ListN.{length}
use Rattle.field.specs.Residues.{Elements}
use Rattle.prover.specs.Curves.{Weights}
use Rattle.prover.proofs.CurveValues.{scaled_from}
use Rattle.prover.proofs.Inputs.{f_elements}
use Rattle.prover.proofs.Weighted.{last_point}
use Rattle.prover.proofs.curve_f.Goals as goal

pub scale-requires : goal.scale-requires
scale-requires c =
    let w = c.fill_f-products in
    let some : 0 < length c.args.fs.now = omega (arith, c.requires.weights.1, c.requires.entries.2) in record {
      weights = (
        subst (λ (k : ℕ). Weights k c.args.weights.now) (last_point (c.requires.weights.1 ∙ c.requires.entries.2)) c.requires.weights.0,
        subst Elements (sym w.ensures.0) (f_elements c.args.x.now _ c.requires.entries.1 c.requires.entries.0.elements),
      );
      y_len = (w.auto.out ∙ sym c.requires.weights.1, some);
    }

pub returns : goal.returns
returns c =
    let w = c.fill_f-products in (
      w.ensures.0,
      record {
        size = w.auto.out ∙ c.requires.entries.2;
        elements = subst Elements (sym w.ensures.0) (f_elements c.args.x.now _ c.requires.entries.1 c.requires.entries.0.elements);
        scaled_are = c.scale.ensures ∙ scaled_from w.new.out _ _ (c.requires.weights.1 ∙ c.requires.entries.2);
      },
      w.ensures.1,
    )
