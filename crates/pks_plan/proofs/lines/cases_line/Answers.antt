use Rattle.std.proofs.Common.{codes}
use Rattle.pks_terms.specs.Printed.{term_text}
use Rattle.pks_terms.specs.Views.{names_of, term_of}
use Rattle.pks_plan.specs.Indents.{indent}
use Rattle.pks_plan.proofs.Appended.{part_first, part_within, part_past, at_err}
use Rattle.pks_plan.proofs.lines.cases_line.Goals as goal

pub returns-in_err-begin_line-clause-err : goal.returns-in_err-begin_line-clause-err
returns-in_err-begin_line-clause-err c = at_err _ _ (part_first _ (part_within (indent c.args.level) (codes "cases ") (term_text (names_of c.args.p.now) (term_of c.args.term.now)) c.in_err-begin_line.ensures.err))

pub returns-in_err-print_term-clause-err : goal.returns-in_err-print_term-clause-err
returns-in_err-print_term-clause-err c =
    at_err _ _ (part_first _ (part_past (indent c.args.level) (codes "cases ") (term_text (names_of c.args.p.now) (term_of c.args.term.now)) c.in_ok-begin_line.ensures.ok c.in_err-print_term.ensures.err))
