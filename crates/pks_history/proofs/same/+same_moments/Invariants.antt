use Rattle.std.proofs.Common.{length}
use Rattle.pks_history.proofs.same.+same_moments.Given as goal

abbrev pub decreases-same_moments : goal.decreases-same_moments
decreases-same_moments l = length l.left.now
