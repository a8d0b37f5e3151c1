use Rattle.std.proofs.Common.{◌≡◌, drop}
use Rattle.pks_reader_shape.specs.Walk.{is_fixed}
use Rattle.pks_reader_shape.proofs.walk.is_fixed.Given as goal

abbrev pub invariant-loop-part : goal.invariant-loop-part
invariant-loop-part l = is_fixed (drop l.part-index l.parts) ≡ is_fixed l.parts
