use Rattle.std.proofs.Common.{◌≡◌, drop}
use Rattle.pks_text.specs.FormViews.{forms_view}
use Rattle.pks_reader_names.specs.Sentences.{same_forms}
use Rattle.pks_reader_problem.proofs.same.+same.Given as goal

abbrev pub invariant-same_forms-loop-i : goal.invariant-same_forms-loop-i
invariant-same_forms-loop-i l = same_forms (forms_view (drop l.i l.forms)) (forms_view (drop l.i l.others)) ≡ same_forms (forms_view l.forms) (forms_view l.others)
