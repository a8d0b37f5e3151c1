use Rattle.std.proofs.Common.{◌≡◌, drop, map}
use Rattle.pks_reader_shape.specs.Grammar.{is_among}
use Rattle.pks_reader_shape.proofs.walk.is_among.Given as goal

abbrev pub invariant-loop-other : goal.invariant-loop-other
invariant-loop-other l = is_among l.head (map (λ h. h.now) (drop l.other-index l.heads)) ≡ is_among l.head (map (λ h. h.now) l.heads)
