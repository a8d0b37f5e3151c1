use Rattle.std.proofs.Common.{◌≡◌, drop}
use Rattle.pks_postdict.specs.Growing.{some_grew}
use Rattle.pks_postdict.proofs.family.some_grew.Given as goal

abbrev pub invariant-loop-x : goal.invariant-loop-x
invariant-loop-x l = some_grew (drop l.x-index l.later) ≡ some_grew l.later
