use Rattle.std.proofs.Common.{length}
use Rattle.pks_justify.proofs.fitting.+covers.Given as goal

abbrev pub decreases-covers : goal.decreases-covers
decreases-covers l = length l.slots.now
