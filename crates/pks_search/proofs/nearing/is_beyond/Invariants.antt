use Rattle.std.proofs.Common.{◌≡◌, drop}
use Rattle.pks_search.specs.Near.{is_far}
use Rattle.pks_search.proofs.nearing.is_beyond.Given as goal

abbrev pub invariant-loop-x : goal.invariant-loop-x
invariant-loop-x l = is_far (drop l.x-index l.near) l.n ≡ is_far l.near l.n
