use Rattle.std.proofs.Common.{drop}
use Rattle.pks_search.specs.Twins.{SomeMet}
use Rattle.pks_search.proofs.twinning.some_met.Given as goal

abbrev pub invariant-loop-x : goal.invariant-loop-x
invariant-loop-x l = SomeMet (drop l.x-index l.twins) → SomeMet l.twins
