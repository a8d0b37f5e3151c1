use Rattle.std.proofs.Common.{◌≡◌, drop}
use Rattle.pks_text.specs.FormViews.{forms_view}
use Rattle.pks_reader_names.specs.Parts.{each}
use Rattle.pks_reader_names.specs.Declarations.{type_faults}
use Rattle.pks_reader_names.specs.Meaning.{all_noted}
use Rattle.pks_reader_names.specs.Views.{found_of, names_of}
use Rattle.pks_reader_declared.proofs.declaring.each_type.Given as goal

abbrev pub invariant-loop-form : goal.invariant-loop-form
invariant-loop-form l = all_noted (found_of l.report) (each (type_faults (names_of l.types)) (forms_view (drop l.form-index l.forms))) ≡ all_noted (found_of l.fn.report) (each (type_faults (names_of l.types)) (forms_view l.forms))
