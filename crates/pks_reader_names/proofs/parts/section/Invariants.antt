use Rattle.std.proofs.Common.{◌≡◌, drop}
use Rattle.pks_text.specs.FormViews.{forms_view}
use Rattle.pks_reader_names.specs.Parts.{section}
use Rattle.pks_reader_names.proofs.parts.section.Given as goal

abbrev pub invariant-loop-form : goal.invariant-loop-form
invariant-loop-form l = section l.head (forms_view (drop l.form-index l.forms)) ≡ section l.head (forms_view l.forms)
