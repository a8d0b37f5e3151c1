use Rattle.std.proofs.Common.{◌≡◌, drop}
use Rattle.pks_text.specs.FormViews.{form_view, forms_view}
use Rattle.pks_reader_names.specs.Parts.{each}
use Rattle.pks_reader_names.specs.Meaning.{all_noted}
use Rattle.pks_reader_names.specs.Sentences.{again}
use Rattle.pks_reader_names.specs.Views.{found_of}
use Rattle.pks_reader_problem.proofs.same.each_again.Given as goal

abbrev pub invariant-loop-i : goal.invariant-loop-i
invariant-loop-i l = all_noted (found_of l.report) (each (again (form_view l.first)) (forms_view (drop l.i l.forms))) ≡ all_noted (found_of l.fn.report) (each (again (form_view l.first)) (forms_view (drop l.from l.forms)))
