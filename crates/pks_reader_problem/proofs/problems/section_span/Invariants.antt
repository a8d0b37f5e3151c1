use Rattle.std.proofs.Common.{◌≡◌, drop}
use Rattle.pks_text.specs.FormViews.{forms_view}
use Rattle.pks_reader_problem.specs.Stated.{section_bytes}
use Rattle.pks_reader_problem.proofs.problems.section_span.Given as goal

abbrev pub invariant-loop-form : goal.invariant-loop-form
invariant-loop-form l = section_bytes l.head (forms_view (drop l.form-index l.forms)) ≡ section_bytes l.head (forms_view l.forms)
