use Rattle.std.proofs.Common.{length}
use Rattle.pks_progress_interference.proofs.targets.+some_makes_false.Given as goal

abbrev pub decreases-some_makes_false : goal.decreases-some_makes_false
decreases-some_makes_false l = length l.es.written.now
