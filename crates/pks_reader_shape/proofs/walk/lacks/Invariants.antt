use Rattle.std.proofs.Common.{◌≡◌, drop}
use Rattle.pks_text.specs.FormViews.{forms_view}
use Rattle.pks_reader_shape.specs.Walk.{lacks}
use Rattle.pks_reader_shape.proofs.walk.lacks.Given as goal

abbrev pub invariant-loop-form : goal.invariant-loop-form
invariant-loop-form l = lacks l.version l.rest (forms_view (drop l.form-index l.forms)) ≡ lacks l.version l.parts (forms_view l.forms)
