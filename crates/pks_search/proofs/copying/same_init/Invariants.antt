use Rattle.std.proofs.Common.{◌≡◌, ◌++◌, drop}
use Rattle.pks_search.proofs.copying.same_init.Given as goal

abbrev pub invariant-loop-item : goal.invariant-loop-item
invariant-loop-item l = l.copies.items ++ drop l.item-index l.init ≡ l.init
