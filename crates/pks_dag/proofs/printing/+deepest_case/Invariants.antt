use Rattle.std.proofs.Common.{length}
use Rattle.pks_dag.proofs.printing.+deepest_case.Given as goal

abbrev pub decreases-deepest_case : goal.decreases-deepest_case
decreases-deepest_case l = length l.cases.now
