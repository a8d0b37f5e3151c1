use Rattle.std.proofs.Common.{◌++◌, codes, sym, subst}
use Rattle.pks_terms.specs.Printed.{line, body_text, cases_text}
use Rattle.pks_terms.specs.Views.{names_of}
use Rattle.pks_plan.specs.Appending.{AppendsPart}
use Rattle.pks_plan.specs.Indents.{indent}
use Rattle.pks_plan.specs.TreeViews.{tree_of, chain_of}
use Rattle.pks_plan.proofs.Appended.{part_first, part_then, part_within, at_err}
use Rattle.pks_plan.proofs.Indented.{indent_more}
use Rattle.pks_plan.proofs.body.+bodies.Goals as goal

pub print_body-returns-in_err-print_side-in-Branch-clause-err : goal.print_body-returns-in_err-print_side-in-Branch-clause-err
print_body-returns-in_err-print_side-in-Branch-clause-err t c =
    let names = names_of c.args.p.now in
    let blanks = indent c.args.level in
    let deeper = blanks ++ codes "  " in
    let head = line (blanks ++ codes "true") in
    let others = line (blanks ++ codes "false") ++ body_text names deeper (tree_of c.in-Branch.no.value) in
    let stopped = subst (λ x. AppendsPart c.branch_line.new.out.items c.print_side.new.out.items (head ++ body_text names deeper (tree_of x))) c.deref-in-Branch.ensures c.in_err-print_side-in-Branch.ensures.err in
    at_err _ _
    (subst (λ x. AppendsPart c.args.out.now.items c.print_side.new.out.items (body_text names blanks (tree_of x))) (sym c.in-Branch.is)
    (part_then _ c.in_ok-branch_line-in-Branch.ensures.ok (part_within head (body_text names deeper (tree_of c.in-Branch.yes.value)) others stopped)))

pub print_cases-returns-in_err-print_body-in-More-clause-err : goal.print_cases-returns-in_err-print_body-in-More-clause-err
print_cases-returns-in_err-print_body-in-More-clause-err t c =
    let names = names_of c.args.p.now in
    let stopped =
    subst (λ b. AppendsPart c.case_line.new.out.items c.print_body.new.out.items (body_text names b (tree_of c.in-More.tree))) (sym (indent_more c.args.level)) c.in_err-print_body-in-More.ensures.err in
    at_err _ _
    (subst (λ x. AppendsPart c.args.out.now.items c.print_body.new.out.items (cases_text names (indent c.args.level) (chain_of x))) (sym c.in-More.is)
    (part_then _ c.in_ok-case_line-in-More.ensures.ok (part_first (cases_text names (indent c.args.level) (chain_of c.in-More.rest.value)) stopped)))
