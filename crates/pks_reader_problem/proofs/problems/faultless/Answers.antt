use Rattle.std.proofs.Common.{◌∙◌, sym, subst}
use Rattle.pks_text.specs.FormViews.{forms_view}
use Rattle.pks_reader_shape.proofs.Refusing.{this_refused}
use Rattle.pks_reader_names.specs.Scopes.{Scope}
use Rattle.pks_reader_declared.specs.FirstFault.{declarations_fault}
use Rattle.pks_reader_problem.specs.Sizes.{IsSmall}
use Rattle.pks_reader_problem.proofs.Few.{scope_small}
use Rattle.pks_reader_problem.proofs.problems.faultless.Goals as goal

pub returns-in-Some-clause-refused : goal.returns-in-Some-clause-refused
returns-in-Some-clause-refused c = this_refused (declarations_fault c.args.version (forms_view c.args.domain.now)) c.in-Some.refusal (sym c.in_ok-read.ensures.refusal ∙ c.in-Some.is)

pub returns-clause-small : goal.returns-clause-small
returns-clause-small c = subst (λ (s : Scope). IsSmall s) (sym c.in_ok-read.ensures.declared) (scope_small c.args.version (forms_view c.args.domain.now))
