use Rattle.std.proofs.Common.{◌≡◌, drop, []}
use Rattle.pks_text.specs.FormViews.{forms_view}
use Rattle.pks_reader_names.specs.Declarations.{objects_from, objects_faults}
use Rattle.pks_reader_names.specs.Meaning.{all_noted}
use Rattle.pks_reader_names.specs.Views.{found_of, names_of}
use Rattle.pks_reader_declared.proofs.sections.objects.Given as goal

abbrev pub invariant-loop-form : goal.invariant-loop-form
invariant-loop-form l = record {
  faults : all_noted (found_of l.report) (objects_faults (names_of l.types) l.left (names_of l.objects) (forms_view (drop l.form-index l.forms))) ≡ all_noted (found_of l.fn.report) (objects_faults (names_of l.types) l.n [] (forms_view l.forms));
  table : objects_from (names_of l.types) l.left (names_of l.objects) (forms_view (drop l.form-index l.forms)) ≡ objects_from (names_of l.types) l.n [] (forms_view l.forms);
}
