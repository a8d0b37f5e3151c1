use Rattle.std.proofs.Common.{length}
use Rattle.pks_progress_interference.proofs.targets.+some_fixed_differ.Given as goal

abbrev pub decreases-some_fixed_differ : goal.decreases-some_fixed_differ
decreases-some_fixed_differ l = length l.slots.now
