use Rattle.std.proofs.Common.{◌≡◌, ◌≤◌, ◌∙◌, None, length, ap}
use Rattle.pks_terms.specs.Views.{literals_in}
use Rattle.pks_text.specs.FormViews.{forms_view}
use Rattle.pks_reader_names.specs.Parts.{each}
use Rattle.pks_reader_names.specs.Terms.{literal_faults}
use Rattle.pks_reader_names.specs.Sentences.{repeated}
use Rattle.pks_reader_names.specs.Views.{found_of, scope_view}
use Rattle.pks_reader_problem.proofs.Faultless.{none_before, few_forms}
use Rattle.pks_reader_problem.proofs.lists.group.Goals as goal

pub returns-clause-says : goal.returns-clause-says
returns-clause-says c = λ none.
    let listed : found_of c.in_sequence.new.report ≡ None = none_before (found_of c.in_sequence.new.report) (found_of c.report_repeated.new.report) (repeated (forms_view c.first_forms.result.now)) c.report_repeated.ensures none in
    let passed : found_of c.past.new.report ≡ None = none_before (found_of c.past.new.report) (found_of c.in_sequence.new.report) (each (literal_faults (scope_view c.args.scope.now)) (forms_view c.args.forms.now)) c.in_ok-literals.ensures.faults listed in
    let few : length c.args.forms.now ≤ 16 = few_forms (found_of c.args.report.now) (found_of c.past.new.report) 16 c.args.forms.now c.past.ensures passed in
    ap literals_in (c.in_ok-group.ensures ∙ c.as_slice.ensures.value) ∙ c.in_ok-literals.ensures.says few
