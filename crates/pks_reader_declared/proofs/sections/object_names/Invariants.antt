use Rattle.std.proofs.Common.{◌≡◌, drop}
use Rattle.pks_text.specs.Forms.{Form}
use Rattle.pks_text.specs.FormViews.{forms_view}
use Rattle.pks_reader_names.specs.Declarations.{first_in, no_faults, entries_faults, table_from}
use Rattle.pks_reader_names.specs.Meaning.{all_noted}
use Rattle.pks_reader_names.specs.Views.{found_of, names_of}
use Rattle.pks_reader_declared.proofs.sections.object_names.Given as goal

abbrev pub invariant-loop-form : goal.invariant-loop-form
invariant-loop-form l = record {
  faults : all_noted (found_of l.report) (entries_faults first_in (λ (f : Form). l.own) no_faults (names_of l.table) (forms_view (drop l.form-index l.forms))) ≡ all_noted (found_of l.fn.report) (entries_faults first_in (λ (f : Form). l.own) no_faults (names_of l.fn.table) (forms_view l.forms));
  table : table_from first_in (λ (f : Form). l.own) (names_of l.table) (forms_view (drop l.form-index l.forms)) ≡ table_from first_in (λ (f : Form). l.own) (names_of l.fn.table) (forms_view l.forms);
}
