use Rattle.std.proofs.Common.{◌≡◌, ◌++◌, drop}
use Rattle.pks_search.proofs.copying.same_params.Given as goal

abbrev pub invariant-loop-names : goal.invariant-loop-names
invariant-loop-names l = l.copies.items ++ drop l.names-index l.params ≡ l.params
