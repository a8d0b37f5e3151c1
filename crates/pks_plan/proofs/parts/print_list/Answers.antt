use Rattle.pks_plan.proofs.Appended.{part_first, part_then, at_err}
use Rattle.pks_plan.proofs.parts.print_list.Goals as goal

pub returns-in_err-print_parts-clause-err : goal.returns-in_err-print_parts-clause-err
returns-in_err-print_parts-clause-err g c =
    at_err _ _ (part_then _ c.in_ok-put.ensures.ok (part_then _ c.in_ok-put-2.ensures.ok (part_first _ c.in_err-print_parts.ensures.err)))

pub returns-in_err-put-3-clause-err : goal.returns-in_err-put-3-clause-err
returns-in_err-put-3-clause-err g c =
    at_err _ _ (part_then _ c.in_ok-put.ensures.ok (part_then _ c.in_ok-put-2.ensures.ok (part_then _ c.in_ok-print_parts.ensures.ok c.in_err-put-3.ensures.err)))
