-- `values::encode` meets its contract: a refusal leaves the buffer, and without one all that writing asks holds.
-- Assumes nothing.
use mathlib.Core.Path.{sym, ◌∙◌}
use Rattle.records.proofs.Refusals.{number_nonzero, fault_passed}
use Rattle.values.proofs.Answers.{out_kept, out_put, encodable}
use Rattle.values.proofs.encode.Goals as goal

pub returns-in_err-check_encode : goal.returns-in_err-check_encode
returns-in_err-check_encode c =
    let e = c.in_err-check_encode.ensures in record {
      answer_is = fault_passed _ _ c.from_residual.ensures.1 ∙ e;
      out_is = sym (out_kept _ _ _ (λ z. number_nonzero _ (e ∙ z)));
    }

pub encode_columns-requires : goal.encode_columns-requires
encode_columns-requires c = encodable _ _ _ (sym c.in_ok-check_encode.ensures)

pub returns : goal.returns
returns c =
    let z = c.in_ok-check_encode.ensures in
    record { answer_is = z; out_is = c.encode_columns.ensures ∙ sym (out_put _ _ _ (sym z)) }
