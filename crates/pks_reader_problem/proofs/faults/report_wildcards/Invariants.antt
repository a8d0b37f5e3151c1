use Rattle.std.proofs.Common.{◌≡◌, drop}
use Rattle.pks_text.specs.FormViews.{forms_view}
use Rattle.pks_reader_names.specs.Meaning.{all_noted}
use Rattle.pks_reader_names.specs.Terms.{wildcards, past_places}
use Rattle.pks_reader_names.specs.Views.{found_of}
use Rattle.pks_reader_problem.proofs.faults.report_wildcards.Given as goal

abbrev pub invariant-loop-form : goal.invariant-loop-form
invariant-loop-form l = all_noted (found_of l.report) (past_places 211 l.left (wildcards (forms_view (drop l.form-index l.forms)))) ≡ all_noted (found_of l.fn.report) (past_places 211 l.n (wildcards (forms_view l.forms)))
