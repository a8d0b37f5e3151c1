use Rattle.std.proofs.Common.{◌≡◌, drop}
use Rattle.pks_terms.specs.Views.{types_of}
use Rattle.pks_text.specs.FormViews.{forms_view}
use Rattle.pks_reader_names.specs.Meaning.{all_noted}
use Rattle.pks_reader_names.specs.Terms.{terms_faults, arguments_faults}
use Rattle.pks_reader_names.specs.Views.{found_of, scope_view}
use Rattle.pks_reader_problem.proofs.faults.+terms.Given as goal

abbrev pub invariant-arguments-loop-i : goal.invariant-arguments-loop-i
invariant-arguments-loop-i l = all_noted (found_of l.report) (terms_faults (scope_view l.scope) (types_of l.rest) (forms_view (drop l.i l.parts))) ≡ all_noted (found_of l.fn.report) (arguments_faults (scope_view l.scope) (types_of l.wanted) (forms_view l.parts))
