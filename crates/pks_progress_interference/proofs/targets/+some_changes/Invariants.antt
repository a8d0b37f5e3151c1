use Rattle.std.proofs.Common.{length}
use Rattle.pks_progress_interference.proofs.targets.+some_changes.Given as goal

abbrev pub decreases-some_changes : goal.decreases-some_changes
decreases-some_changes l = length l.es.written.now
