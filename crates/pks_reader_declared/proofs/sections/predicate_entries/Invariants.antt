use Rattle.std.proofs.Common.{◌≡◌, drop}
use Rattle.pks_terms.specs.Views.{shape_of}
use Rattle.pks_text.specs.FormViews.{forms_view}
use Rattle.pks_reader_names.specs.Declarations.{first_in, predicate_in, predicate_faults, entries_faults, table_from}
use Rattle.pks_reader_names.specs.Meaning.{all_noted}
use Rattle.pks_reader_names.specs.Views.{found_of, names_of, seen}
use Rattle.pks_reader_declared.proofs.sections.predicate_entries.Given as goal

abbrev pub invariant-loop-form : goal.invariant-loop-form
invariant-loop-form l = record {
  faults : all_noted (found_of l.report) (entries_faults first_in (predicate_in (names_of l.types)) (predicate_faults (names_of l.types)) (seen shape_of (names_of l.table)) (forms_view (drop l.form-index l.forms))) ≡ all_noted (found_of l.fn.report) (entries_faults first_in (predicate_in (names_of l.types)) (predicate_faults (names_of l.types)) (seen shape_of (names_of l.fn.table)) (forms_view l.forms));
  table : table_from first_in (predicate_in (names_of l.types)) (seen shape_of (names_of l.table)) (forms_view (drop l.form-index l.forms)) ≡ table_from first_in (predicate_in (names_of l.types)) (seen shape_of (names_of l.fn.table)) (forms_view l.forms);
}
