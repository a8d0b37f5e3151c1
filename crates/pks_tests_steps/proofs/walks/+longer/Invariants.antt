use Rattle.std.proofs.Common.{length}
use Rattle.pks_tests_steps.proofs.walks.+longer.Given as goal

abbrev pub decreases-longer : goal.decreases-longer
decreases-longer l = length l.actions.now
