use Rattle.std.proofs.Common.{length}
use Rattle.pks_tests_runs.proofs.peers.+leaves.Given as goal

abbrev pub decreases-leaves : goal.decreases-leaves
decreases-leaves l = length l.answers.now
