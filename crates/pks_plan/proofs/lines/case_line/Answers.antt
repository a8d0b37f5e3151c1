use Rattle.std.proofs.Common.{codes}
use Rattle.pks_terms.specs.Printed.{name_in}
use Rattle.pks_terms.specs.Views.{names_of}
use Rattle.pks_plan.specs.Indents.{indent}
use Rattle.pks_plan.proofs.Appended.{part_first, part_within, part_past, at_err}
use Rattle.pks_plan.proofs.lines.case_line.Goals as goal

pub returns-in_err-begin_line-clause-err : goal.returns-in_err-begin_line-clause-err
returns-in_err-begin_line-clause-err c = at_err _ _ (part_first _ (part_within (indent c.args.level) (codes "case ") (name_in (names_of c.args.p.now).objects c.args.object.0) c.in_err-begin_line.ensures.err))

pub returns-in_err-print-clause-err : goal.returns-in_err-print-clause-err
returns-in_err-print-clause-err c =
    at_err _ _ (part_first _ (part_past (indent c.args.level) (codes "case ") (name_in (names_of c.args.p.now).objects c.args.object.0) c.in_ok-begin_line.ensures.ok c.in_err-print.ensures.err))
