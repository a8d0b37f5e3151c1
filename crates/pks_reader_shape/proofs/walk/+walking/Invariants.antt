use Rattle.std.proofs.Common.{◌≡◌, drop}
use Rattle.pks_text.specs.FormViews.{forms_view}
use Rattle.pks_reader_shape.specs.Walk.{fault_among}
use Rattle.pks_reader_shape.proofs.walk.+walking.Given as goal

abbrev pub invariant-walk_parts-loop-form : goal.invariant-walk_parts-loop-form
invariant-walk_parts-loop-form l = fault_among l.version l.rest (forms_view (drop l.form-index l.forms)) ≡ fault_among l.version l.parts (forms_view l.forms)
