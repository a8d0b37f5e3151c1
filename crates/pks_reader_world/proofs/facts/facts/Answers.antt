use Rattle.std.proofs.Common.{map, sym, ◌∙◌}
use Rattle.std.specs.Prelude.{codes}
use Rattle.pks_terms.specs.Views.{term_of}
use Rattle.pks_text.specs.FormViews.{forms_view}
use Rattle.pks_reader_names.specs.Parts.{each, section}
use Rattle.pks_reader_names.specs.Meaning.{all_noted}
use Rattle.pks_reader_names.specs.Views.{found_of, scope_view}
use Rattle.pks_reader_names.proofs.Noting.{noted_both}
use Rattle.pks_world.specs.Contents.{has_place, world_of}
use Rattle.pks_reader_world.specs.Facts.{true_faults, none_given, values_faults, world_faults}
use Rattle.pks_reader_world.specs.Filling.{with_facts, with_entries}
use Rattle.pks_reader_world.specs.Views.{given_of}
use Rattle.pks_reader_world.proofs.Typed.{none_found}
use Rattle.pks_reader_world.proofs.facts.facts.Goals as goal

pub returns-clause-faults : goal.returns-clause-faults
unfolding world_faults
returns-clause-faults c =
    let s = scope_view c.args.scope.now in
    let fs = forms_view c.args.forms.now in
    let old = found_of c.args.report.now in
    c.in_ok-values.ensures.faults
    ∙ (λ i. all_noted (c.in_ok-truths.ensures.faults i) (values_faults s (has_place (map term_of (c.new-given.ensures.empty i))) (c.section-2.ensures i)))
    ∙ (λ i. all_noted (all_noted old (each (true_faults s) (c.section.ensures i))) (values_faults s none_given (section (codes "values") fs)))
    ∙ sym (noted_both old (each (true_faults s) (section (codes "true") fs)) (values_faults s none_given (section (codes "values") fs)))

pub returns-clause-says : goal.returns-clause-says
returns-clause-says c = λ none.
    let s = scope_view c.args.scope.now in
    let fs = forms_view c.args.forms.now in
    let before = none_found (found_of c.truths.new.report) (values_faults s (given_of c.new-given.result) (forms_view c.section-2.result.now)) (sym c.in_ok-values.ensures.faults ∙ none) in
    c.in_ok-values.ensures.says none
    ∙ (λ i. with_entries s (c.in_ok-truths.ensures.says before.0 i) (c.section-2.ensures i))
    ∙ (λ i. with_entries s (with_facts s (world_of c.args.world.now) (c.section.ensures i)) (section (codes "values") fs))
