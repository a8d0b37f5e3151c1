use Rattle.std.proofs.Common.{◌≡◌, ◌∙◌, List, None, sym, ap, rules}
use Rattle.pks_text.specs.Forms.{Form, Forms}
use Rattle.pks_text.specs.FormViews.{forms_view}
use Rattle.pks_reader_shape.specs.Files.{Fault}
use Rattle.pks_reader_shape.specs.Refusals.{refusing}
use Rattle.pks_reader_shape.proofs.Refusing.{none_refused, this_refused}
use Rattle.pks_reader_names.specs.Parts.{behind_head}
use Rattle.pks_reader_names.specs.Declarations.{second_in, nothing, action_faults, actions_among, section_faults, actions_section}
use Rattle.pks_reader_names.specs.Meaning.{least}
use Rattle.pks_reader_names.specs.Views.{found_of, names_of}
use Rattle.pks_reader_declared.specs.Views.{declared_view}
use Rattle.pks_reader_problem.specs.Stated.{all, schema_in, action_name, parameter_names, add_places}
use Rattle.pks_reader_problem.proofs.Walked.{IsSection, section_least, section_whole}
use Rattle.pks_reader_problem.proofs.problems.actions.Goals as goal

pub returns-in-Some-clause-refused : goal.returns-in-Some-clause-refused
unfolding actions_section
returns-in-Some-clause-refused c =
    let s = declared_view c.args.declared.now in
    let faults : Form → List Fault = λ f. action_faults s (behind_head f) in
    let fs = forms_view c.actions_among-among.result.now in
    let is : IsSection faults fs (forms_view c.first_forms-first.result.now) (names_of c.new-table.result) (names_of c.action_entries.new.table) (found_of c.new-report.result) (found_of c.action_entries.new.report) (found_of c.past_second_names.new.report) =
    record { begun = c.new-report.ensures; empty = search rules; first = c.first_forms-first.ensures.forms; table = c.in_ok-actions.ensures.table; entries = c.in_ok-actions.ensures.faults; past = c.past_second_names.ensures } in
    let found = section_least faults fs _ _ _ _ _ _ is ∙ ap (λ (gs : Forms). least (section_faults second_in 64 nothing faults gs)) c.actions_among-among.ensures in
    this_refused (least (actions_section s (forms_view c.args.domain.now))) c.in-Some.refusal (sym (c.refusal.ensures ∙ ap refusing found) ∙ c.in-Some.is)

pub returns : goal.returns
unfolding actions_section
returns c =
    let s = declared_view c.args.declared.now in
    let faults : Form → List Fault = λ f. action_faults s (behind_head f) in
    let fs = forms_view c.actions_among-among.result.now in
    let is : IsSection faults fs (forms_view c.first_forms-first.result.now) (names_of c.new-table.result) (names_of c.action_entries.new.table) (found_of c.new-report.result) (found_of c.action_entries.new.report) (found_of c.past_second_names.new.report) =
    record { begun = c.new-report.ensures; empty = search rules; first = c.first_forms-first.ensures.forms; table = c.in_ok-actions.ensures.table; entries = c.in_ok-actions.ensures.faults; past = c.past_second_names.ensures } in
    let found = section_least faults fs _ _ _ _ _ _ is ∙ ap (λ (gs : Forms). least (section_faults second_in 64 nothing faults gs)) c.actions_among-among.ensures in
    let none : found_of c.past_second_names.new.report ≡ None = none_refused (found_of c.past_second_names.new.report) (sym c.refusal.ensures ∙ c.in-None.is) in
    let whole : forms_view c.first_forms-first.result.now ≡ actions_among (forms_view c.args.domain.now) = section_whole faults fs _ _ _ _ _ _ is none ∙ c.actions_among-among.ensures in
    record {
      faultless = sym found ∙ none;
      says = c.in_ok-actions.ensures.says ∙ ap (λ (gs : Forms). all (λ (f : Form). schema_in s (behind_head f)) gs) whole;
      names = c.in_ok-actions.ensures.names ∙ ap (λ (gs : Forms). all action_name gs) whole;
      parameters = c.in_ok-actions.ensures.parameters ∙ ap (λ (gs : Forms). all (parameter_names s) gs) whole;
      counts = c.in_ok-actions.ensures.counts;
      places = c.in_ok-actions.ensures.places;
      spans = c.in_ok-actions.ensures.spans ∙ ap (λ (gs : Forms). all add_places gs) whole;
      refused = tt;
    }
