use Rattle.std.proofs.Common.{◌≡◌, ◌++◌, map, drop}
use Rattle.pks_terms.specs.Sets.{Each}
use Rattle.pks_terms.specs.Counts.{SchemaCounts}
use Rattle.pks_terms.specs.ValidProblems.{AssignsToPlace}
use Rattle.pks_terms.specs.Views.{schema_of}
use Rattle.pks_text.specs.Forms.{Form}
use Rattle.pks_text.specs.FormViews.{forms_view}
use Rattle.pks_reader_names.specs.Parts.{behind_head}
use Rattle.pks_reader_names.specs.Declarations.{second_in, nothing, action_faults, entries_faults, table_from}
use Rattle.pks_reader_names.specs.Meaning.{all_noted}
use Rattle.pks_reader_names.specs.Views.{found_of, names_of}
use Rattle.pks_reader_declared.specs.Views.{declared_view}
use Rattle.pks_reader_problem.specs.Spans.{adds_in}
use Rattle.pks_reader_problem.specs.Stated.{all, schema_in, action_name, parameter_names, add_places}
use Rattle.pks_reader_problem.proofs.problems.action_entries.Given as goal

abbrev pub invariant-loop-i : goal.invariant-loop-i
invariant-loop-i l = record {
  faults : all_noted (found_of l.report) (entries_faults second_in nothing (λ (f : Form). action_faults (declared_view l.declared) (behind_head f)) (names_of l.table) (forms_view (drop l.i l.forms)))
      ≡ all_noted (found_of l.fn.report) (entries_faults second_in nothing (λ (f : Form). action_faults (declared_view l.declared) (behind_head f)) (names_of l.fn.table) (forms_view l.forms));
  table : table_from second_in nothing (names_of l.table) (forms_view (drop l.i l.forms)) ≡ table_from second_in nothing (names_of l.fn.table) (forms_view l.forms);
  says : map schema_of l.schemas.items ++ all (λ f. schema_in (declared_view l.declared) (behind_head f)) (forms_view (drop l.i l.forms)) ≡ all (λ f. schema_in (declared_view l.declared) (behind_head f)) (forms_view l.forms);
  names : map (λ y. y.name.now) l.schemas.items ++ all action_name (forms_view (drop l.i l.forms)) ≡ all action_name (forms_view l.forms);
  parameters : map (λ names. map (λ t. t.now) names) l.params.items ++ all (parameter_names (declared_view l.declared)) (forms_view (drop l.i l.forms)) ≡ all (parameter_names (declared_view l.declared)) (forms_view l.forms);
  counts : Each SchemaCounts l.schemas.items;
  places : Each (λ y. Each (λ e. AssignsToPlace e.target) y.effects) l.schemas.items;
  spans : map adds_in l.schemas.items ++ all add_places (forms_view (drop l.i l.forms)) ≡ all add_places (forms_view l.forms);
}
