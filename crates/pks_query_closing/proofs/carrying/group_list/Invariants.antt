use Rattle.std.proofs.Common.{◌≡◌, ◌++◌}
use Rattle.pks_query_closing.proofs.carrying.group_list.Given as goal

abbrev pub invariant-loop-g : goal.invariant-loop-g
invariant-loop-g l = l.all.items ++ l.g-iterator ≡ l.kx
