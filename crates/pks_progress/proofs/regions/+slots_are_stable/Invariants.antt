use Rattle.std.proofs.Common.{length}
use Rattle.pks_progress.proofs.regions.+slots_are_stable.Given as goal

abbrev pub decreases-slots_are_stable : goal.decreases-slots_are_stable
decreases-slots_are_stable l = length l.slots.now
