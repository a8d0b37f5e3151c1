use Rattle.std.proofs.Common.{◌∙◌}
use Rattle.pks_run_answer.proofs.Parts.{parts_refuse}
use Rattle.pks_run_answer.proofs.line.refusal_parts.Goals as goal

pub returns : goal.returns
returns c = λ r line column code rest.
    parts_refuse r c.as_slice.result.now c.as_bytes.result.now c.as_slice-2.result.now c.as_bytes-2.result.now c.as_slice-3.result.now c.as_bytes-3.result.now c.as_bytes-4.result.now c.as_slice-4.result.now
    c.as_slice.ensures (c.as_bytes.ensures.value ∙ line) c.as_slice-2.ensures (c.as_bytes-2.ensures.value ∙ column) c.as_slice-3.ensures (c.as_bytes-3.ensures.value ∙ code) (c.as_bytes-4.ensures.value ∙ rest) c.as_slice-4.ensures
