use Rattle.std.proofs.Common.{◌+◌, length}
use Rattle.pks_pmap.proofs.tree.BalancedTree.+join.Given as goal

abbrev pub decreases-join : goal.decreases-join
decreases-join g l = length l.left.0 + length l.right.0
