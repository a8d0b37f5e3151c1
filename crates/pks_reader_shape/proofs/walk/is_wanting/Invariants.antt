use Rattle.std.proofs.Common.{◌≡◌, drop}
use Rattle.pks_reader_shape.specs.Walk.{is_wanting}
use Rattle.pks_reader_shape.proofs.walk.is_wanting.Given as goal

abbrev pub invariant-loop-part : goal.invariant-loop-part
invariant-loop-part l = is_wanting (drop l.part-index l.parts) ≡ is_wanting l.parts
