use Rattle.std.proofs.Common.{◌≡◌, drop}
use Rattle.pks_text.specs.FormViews.{forms_view}
use Rattle.pks_reader_names.specs.Meaning.{all_noted}
use Rattle.pks_reader_names.specs.Sentences.{repeated}
use Rattle.pks_reader_names.specs.Views.{found_of}
use Rattle.pks_reader_problem.proofs.same.report_repeated.Given as goal

abbrev pub invariant-loop-i : goal.invariant-loop-i
invariant-loop-i l = all_noted (found_of l.report) (repeated (forms_view (drop l.i l.forms))) ≡ all_noted (found_of l.fn.report) (repeated (forms_view l.forms))
