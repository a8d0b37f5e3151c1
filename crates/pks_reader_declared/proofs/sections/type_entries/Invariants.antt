use Rattle.std.proofs.Common.{◌≡◌, ◌≤◌, drop, length, []}
use Rattle.pks_text.specs.FormViews.{forms_view}
use Rattle.pks_reader_names.specs.Declarations.{types_from, types_faults}
use Rattle.pks_reader_names.specs.Meaning.{all_noted}
use Rattle.pks_reader_names.specs.Views.{found_of, names_of}
use Rattle.pks_reader_declared.proofs.sections.type_entries.Given as goal

abbrev pub invariant-loop-form : goal.invariant-loop-form
invariant-loop-form l = record {
  faults : all_noted (found_of l.report) (types_faults (names_of l.types) (forms_view (drop l.form-index l.forms))) ≡ all_noted (found_of l.fn.report) (types_faults [] (forms_view l.forms));
  table : types_from (names_of l.types) (forms_view (drop l.form-index l.forms)) ≡ types_from [] (forms_view l.forms);
  few : length (names_of l.types) ≤ l.form-index;
}
