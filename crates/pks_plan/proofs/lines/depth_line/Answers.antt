use Rattle.std.proofs.Common.{◌++◌, ◌∷◌, [], codes, decimal}
use Rattle.pks_plan.proofs.Appended.{part_first, part_then, at_err}
use Rattle.pks_plan.proofs.lines.depth_line.Goals as goal

pub returns-in_err-put-clause-err : goal.returns-in_err-put-clause-err
returns-in_err-put-clause-err c = at_err _ _ (part_first {a = codes "plan depth "} (decimal c.args.depth ++ 10 ∷ []) c.in_err-put.ensures.err)

pub returns-in_err-put_number-clause-err : goal.returns-in_err-put_number-clause-err
returns-in_err-put_number-clause-err c = at_err _ _ (part_then (codes "plan depth ") c.in_ok-put.ensures.ok (part_first (10 ∷ []) c.in_err-put_number.ensures.err))
