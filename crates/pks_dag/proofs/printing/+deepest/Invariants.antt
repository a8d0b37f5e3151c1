use Rattle.std.proofs.Common.{length}
use Rattle.pks_dag.proofs.printing.+deepest.Given as goal

abbrev pub decreases-deepest : goal.decreases-deepest
decreases-deepest l = length l.children.now
