use Rattle.std.proofs.Common.{codes}
use Rattle.pks_terms.specs.Printed.{conj_text}
use Rattle.pks_terms.specs.Views.{names_of, conj_of}
use Rattle.pks_plan.specs.Indents.{indent}
use Rattle.pks_plan.proofs.Appended.{part_first, part_within, part_past, at_err}
use Rattle.pks_plan.proofs.lines.branch_line.Goals as goal

pub returns-in_err-begin_line-clause-err : goal.returns-in_err-begin_line-clause-err
returns-in_err-begin_line-clause-err c = at_err _ _ (part_first _ (part_within (indent c.args.level) (codes "branch ") (conj_text (names_of c.args.p.now) (conj_of c.args.test.now)) c.in_err-begin_line.ensures.err))

pub returns-in_err-print_conj-clause-err : goal.returns-in_err-print_conj-clause-err
returns-in_err-print_conj-clause-err c =
    at_err _ _ (part_first _ (part_past (indent c.args.level) (codes "branch ") (conj_text (names_of c.args.p.now) (conj_of c.args.test.now)) c.in_ok-begin_line.ensures.ok c.in_err-print_conj.ensures.err))
