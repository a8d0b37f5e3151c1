use Rattle.std.proofs.Common.{length}
use Rattle.pks_progress_interference.proofs.targets.+some_makes_true.Given as goal

abbrev pub decreases-some_makes_true : goal.decreases-some_makes_true
decreases-some_makes_true l = length l.es.written.now
