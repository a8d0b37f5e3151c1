use Rattle.std.proofs.Common.{◌≡◌, drop}
use Rattle.pks_text.specs.FormViews.{forms_view}
use Rattle.pks_reader_names.specs.Heights.{one_higher}
use Rattle.pks_reader_problem.proofs.faults.+heights.Given as goal

abbrev pub invariant-is_one_above-loop-form : goal.invariant-is_one_above-loop-form
invariant-is_one_above-loop-form l = one_higher l.low (forms_view (drop l.form-index l.forms)) ≡ one_higher l.low (forms_view l.forms)
