use Rattle.std.proofs.Common.{length}
use Rattle.pks_progress_interference.proofs.targets.+some_differ_inside.Given as goal

abbrev pub decreases-some_differ_inside : goal.decreases-some_differ_inside
decreases-some_differ_inside l = length l.ts.now
