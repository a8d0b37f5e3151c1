use Rattle.std.proofs.Common.{◌≡◌, drop}
use Rattle.pks_text.specs.FormViews.{form_view}
use Rattle.pks_reader_shape.specs.Walk.{sort_at, parts_after}
use Rattle.pks_reader_shape.proofs.walk.next_part.Given as goal

abbrev pub invariant-loop-i : goal.invariant-loop-i
invariant-loop-i l =
    (sort_at l.version (drop l.i l.parts) (form_view l.form) ≡ sort_at l.version l.parts (form_view l.form))
    × (parts_after l.version (drop l.i l.parts) (form_view l.form) ≡ parts_after l.version l.parts (form_view l.form))
