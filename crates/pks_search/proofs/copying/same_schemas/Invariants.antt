use Rattle.std.proofs.Common.{◌≡◌, ◌++◌, drop}
use Rattle.pks_search.proofs.copying.same_schemas.Given as goal

abbrev pub invariant-loop-x : goal.invariant-loop-x
invariant-loop-x l = l.copies.items ++ drop l.x-index l.schemas ≡ l.schemas
