use Rattle.std.proofs.Common.{length}
use Rattle.pks_progress_interference.proofs.spoiled.+inners_stay.Given as goal

abbrev pub decreases-inners_stay : goal.decreases-inners_stay
decreases-inners_stay l = length l.ts.now
