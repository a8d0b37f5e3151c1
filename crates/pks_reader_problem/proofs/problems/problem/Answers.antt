use Rattle.std.proofs.Common.{◌≡◌, Some, subst}
use Rattle.std.proofs.lemmas.Result.{err_from_is_err_and}
use Rattle.pks_text.specs.FormViews.{form_view, forms_view}
use Rattle.pks_reader_shape.specs.Files.{or_else}
use Rattle.pks_reader_shape.specs.Refusals.{Turns}
use Rattle.pks_reader_names.specs.Parts.{behind_head}
use Rattle.pks_reader_names.specs.Scopes.{Scope}
use Rattle.pks_reader_names.specs.Sentences.{problem_faults}
use Rattle.pks_reader_names.specs.Declarations.{actions_section}
use Rattle.pks_reader_names.specs.Meaning.{least, scope_of}
use Rattle.pks_reader_declared.specs.FirstFault.{declarations_fault, meaning_fault}
use Rattle.pks_reader_problem.proofs.Walked.{turns_later}
use Rattle.pks_reader_problem.proofs.problems.problem.Goals as goal

pub returns-in_err-problem-clause-refused : goal.returns-in_err-problem-clause-refused
unfolding meaning_fault
returns-in_err-problem-clause-refused c =
    let domain = forms_view c.args.domain.now in
    let parts = behind_head (form_view c.args.form.now) in
    let e = c.in_err-problem.field-0.0 in
    let s = scope_of c.args.version domain in
    let later : Turns (λ f. or_else (least (actions_section s domain)) (least (problem_faults s parts)) ≡ Some f) e =
    subst (λ (t : Scope). Turns (λ f. or_else (least (actions_section t domain)) (least (problem_faults t parts)) ≡ Some f) e) c.in_ok-declared.ensures.declared c.in_err-problem.ensures.refused in
    let first : Turns (λ f. meaning_fault c.args.version domain parts ≡ Some f) e =
    turns_later (declarations_fault c.args.version domain) (or_else (least (actions_section s domain)) (least (problem_faults s parts))) e c.in_ok-declared.ensures.faultless later in
    let p = err_from_is_err_and c.from_residual-in_err-problem.result c.from_residual-in_err-problem.ensures.1 in
    rw (p.1, p.2) first
